use Rattle.std.proofs.Common.{arith}
use Rattle.sheet.specs.laws.RowTableLaw.{rule-digits}
use Rattle.commands.proofs.PressLaw.{press-taken, press-none, press-many, press-outside}
use Rattle.commands.proofs.StateLaw as laws
use Rattle.commands.proofs.rules.State.add_press.Goals as goal

pub returns-then-x-self : goal.returns-then-x-self
returns-then-x-self c = λ p o h. press-outside p.sheet _ _ _ 0 h.size h.tests c.if-x-self.true

pub returns-then-self-ge256 : goal.returns-then-self-ge256
returns-then-self-ge256 c = λ p o h. press-many p.sheet _ _ _ 0 h.size h.tests c.if-x-self.false c.if-self-ge256.true

pub returns-then-t-ge16 : goal.returns-then-t-ge16
returns-then-t-ge16 c = λ p o h.
    press-none p.sheet _ _ c.args.x _ h.size h.tests c.if-x-self.false c.if-self-ge256.false (h.rules.targets.table.at _ _ h.tests.digit (omega (arith, h.bounds.inputs)))
    (rule-digits p.sheet.rules _ _ h.rules.targets.digits) (rw c.from.ensures at c.if-t-ge16.true)

pub returns : goal.returns
returns c = λ p o h.
    rw (c.from-2.ensures, c.from.ensures)
    (laws.state-press _ p h _ _ o
    (press-taken p.sheet _ _ c.args.x _ h.size h.tests (h.ordered.begun (omega arith)) c.if-x-self.false c.if-self-ge256.false
    (h.rules.targets.table.at _ _ h.tests.digit (omega (arith, h.bounds.inputs))) (rw c.from.ensures at c.if-t-ge16.false)))
