-- `agreement`: no more choices than are asked for.
use Prim.Native.Nat.{◌≤◌}
use Rattle.pool.proofs.agreement.Given as goal

abbrev pub invariant-loop-j : goal.invariant-loop-j
invariant-loop-j l = l.j ≤ l.n
