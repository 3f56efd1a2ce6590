use mathlib.Core.Path.{◌∙◌, ap, sym}
use Rattle.std.specs.Prelude.{Ok, Err}
use Rattle.lists.specs.Proving.{rules}
use Rattle.station.proofs.ReadLaw.{suited-of}
use Rattle.station.specs.words.Parts.{suited_by}
use Rattle.station.proofs.suit.suit.Goals as goal

pub returns-in_err-judge : goal.returns-in_err-judge
returns-in_err-judge c = (search rules) ∙ ap suited_by (sym c.in_err-judge.was) ∙ suited-of c.args.sheet.now c.judge.ensures.answer

pub returns-in-None : goal.returns-in-None
returns-in-None c = sym (ap suited_by (c.in_ok-judge.was ∙ ap Ok c.in-None.is)) ∙ suited-of c.args.sheet.now c.judge.ensures.answer

pub returns-in-Some : goal.returns-in-Some
returns-in-Some c = ap Err c.new.ensures ∙ sym (ap suited_by (c.in_ok-judge.was ∙ ap Ok c.in-Some.is)) ∙ suited-of c.args.sheet.now c.judge.ensures.answer
