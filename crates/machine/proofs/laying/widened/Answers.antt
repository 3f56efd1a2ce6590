-- `widened`: the choices before i are the bytes, and the others are 0.
use native.Mathlib.Omega.{arith}
use native.Mathlib.Decide.{dec_lt}
use mathlib.Core.Path.{refl, sym, ◌∙◌}
use mathlib.Core.Logic.{by_cases}
use lib.ListN.{get_or, length-set, get_or-eq_default}
use lib.Seq.{get_or-set_other}
use Rattle.machine.proofs.LayLaw.{one_more, zeros}
use Rattle.machine.proofs.laying.widened.Goals as goal

pub loop-i-init : goal.loop-i-init
loop-i-init c = (refl, λ t l. absurd (omega arith), λ t l. zeros 32 t)

pub loop-i-preserved : goal.loop-i-preserved
loop-i-preserved c = let inv = c.loop-i.invariant in (
  simp length-set inv.0,
  one_more c.loop-i.p (λ t. get_or c.args.bytes.now t 0) c.loop-i.i c.from.result (omega arith) inv.1 c.from.ensures,
  λ t l. get_or-set_other c.loop-i.p c.loop-i.i t c.from.result 0 (λ z. omega arith) ∙ inv.2 t (omega arith),
)

pub returns : goal.returns
returns c = let inv = c.loop-i.invariant in record {
  long = inv.0;
  at = λ t l. by_cases (dec_lt t c.loop-i.i) (inv.1 t) (λ h. inv.2 t (omega arith) ∙ sym (get_or-eq_default c.args.bytes.now 0 (omega arith)));
}
