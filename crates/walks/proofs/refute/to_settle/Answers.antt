use Rattle.lists.specs.Proving.{arith}
use Rattle.walks.proofs.refute.to_settle.Goals as goal

pub returns : goal.returns
returns c = record { low = c.if-i-ge32.false; free = rw c.from.ensures at c.if-p-from-ne256.false; count = c.choices.ensures; some = omega (arith, c.if-left-eq0.false) }
