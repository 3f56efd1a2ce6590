use native.Mathlib.Omega.{arith}
use mathlib.Core.Path.{refl}
use lib.Pow.{pow_pos}
use Rattle.cubes.specs.laws.SetLaw.{one_shl}
use Rattle.clearing.proofs.order.before.Goals as goal

pub nonzero_rem-result : goal.nonzero_rem-result
nonzero_rem-result c = rw (one_shl 32 c.args.j (omega arith)) (pow_pos c.args.j)

pub returns : goal.returns
returns c = rw (one_shl 32 c.args.j (omega arith)) refl
