use Rattle.lists.specs.Proving.{arith}
use native.Mathlib.Nat.{div-le_self, mod-le}
use Rattle.block.proofs.layout.unruled.Goals as goal

pub overflow_cast-result : goal.overflow_cast-result
overflow_cast-result c = omega (arith, div-le_self c.args.c c.args.states)

pub overflow_cast-result-2 : goal.overflow_cast-result-2
overflow_cast-result-2 c = omega (arith, mod-le c.args.c c.args.states)
