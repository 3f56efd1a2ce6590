use Rattle.std.proofs.Common.{◌∙◌, false, true}
use Rattle.sheet.specs.laws.EncodedLaw.{encoded}
use Rattle.reading.proofs.PlaceLaw.{quiet-found}
use Rattle.reading.proofs.layout.is_quiet.Goals as goal

pub returns-in_default : goal.returns-in_default
returns-in_default c = λ sh e.
    let none = c.in_default.is in
    quiet-found sh c.args.sheet.now (encoded _ sh e) c.at.result c.at.ensures false (λ h. cc) (λ h k. cc)

pub returns-in-Quiet : goal.returns-in-Quiet
returns-in-Quiet c = λ sh e.
    quiet-found sh c.args.sheet.now (encoded _ sh e) c.at.result c.at.ensures true (λ h. c.in-Some.is ∙ cc) (λ h k. cc)

pub returns-in_default-matches : goal.returns-in_default-matches
returns-in_default-matches c = λ sh e.
    quiet-found sh c.args.sheet.now (encoded _ sh e) c.at.result c.at.ensures false (λ h. cc) (λ h k. c.in_default-matches.not-Quiet (cc (c.in-Some.is)))
