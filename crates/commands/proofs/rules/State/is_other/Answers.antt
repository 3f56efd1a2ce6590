use Rattle.sheet.specs.laws.RowTableLaw.{rule-digits}
use Rattle.commands.proofs.FaultLaw.{other_none}
use Rattle.commands.proofs.rules.State.is_other.Goals as goal

pub returns-else-output : goal.returns-else-output
returns-else-output c = λ p h.
    let row = c.args.row in
    rw c.if-output.false
    (other_none _ row (rule-digits p.sheet.rules _ _ h.rules.targets.digits) (h.rules.outputs.at row.source row.input c.requires.0 c.requires.1) (rw c.place-p.ensures at c.if-output.false))
