-- `test_survivors`: no survivor but those from before.
use native.Mathlib.Omega.{arith}
use mathlib.Core.Path.{◌∙◌}
use Rattle.std.specs.Prelude.{None}
use lib.ListN.{length-set}
use Rattle.pool.proofs.ForgetLaw.{forgets-none, forgets-one}
use Rattle.pool.proofs.Steering.test_survivors.Goals.{in-Some+then-not-gives_from, in-Some+else-not-gives_from, in_default}
use Rattle.pool.proofs.Steering.test_survivors.Goals as goal

pub loop-w-init : goal.loop-w-init
loop-w-init c = (forgets-none _ c.earn.ensures, rw c.earn.ensures (omega arith))

pub loop-w-preserved : goal.loop-w-preserved
loop-w-preserved c =
    let inv = c.loop-w.invariant in
    elim c.match-self-w.branch [
      | in-Some+then-not-gives_from w ↦ rw w.self-is (forgets-one c.loop-w.w (omega (arith, inv.1)) inv.0, length-set c.loop-w.self.survivors c.loop-w.w None ∙ inv.1)
      | in-Some+else-not-gives_from w ↦ rw w.self-is inv
      | in_default w ↦ rw w.self-is inv
    ]

pub returns : goal.returns
returns c = c.loop-w.invariant.0
