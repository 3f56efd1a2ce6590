-- `test_survivors`: no survivor but those from before.
use Rattle.std.specs.Prelude.{◌≡◌, length}
use Rattle.pool.specs.Steers.{Forgets}
use Rattle.pool.proofs.Steering.test_survivors.Given as goal

abbrev pub invariant-loop-w : goal.invariant-loop-w
invariant-loop-w l = Forgets l.fn.self l.self × (length l.self.survivors ≡ 8)
