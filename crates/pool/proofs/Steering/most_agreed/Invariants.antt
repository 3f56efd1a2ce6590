-- `most_agreed`: no more choices than are asked for.
use Prim.Native.Nat.{◌+◌, ◌≤◌}
use Rattle.pool.proofs.Steering.most_agreed.Given as goal

abbrev pub invariant-loop-survivor : goal.invariant-loop-survivor
invariant-loop-survivor l = l.most ≤ l.n + 1
