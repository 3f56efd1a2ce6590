use mathlib.Core.Path.{◌∙◌, ap}
use lib.ListN.{length}
use Rattle.sheet.specs.Sheet.{Sheet}
use Rattle.station.proofs.ReadLaw.{same-sheet}
use Rattle.station.proofs.AnswerLaw.{along-at, along-onward}
use Rattle.station.proofs.steps.along.Goals as goal

pub returns-in-Some : goal.returns-in-Some
returns-in-Some c = λ sh e. along-at sh c.args.state (c.input_at.ensures sh e) c.in-Some.is

pub returns-in-None : goal.returns-in-None
returns-in-None c = λ sh e.
    let (own, read, many) = c.requires in
    let same = same-sheet c.args.sheet.now read e in
    along-onward sh c.args.state (c.input_at.ensures sh e) c.in-None.is (many ∙ ap (λ (q : Sheet). length q.tests) same) c.onward.ensures
