use Rattle.std.specs.Prelude.{◌≤◌, ◌≡◌}
use Rattle.lists.specs.Proving.{length}
use Rattle.leaves.specs.Members.{Exact}
use Rattle.leaves.proofs.exact.Given as goal

abbrev pub invariant-loop-j : goal.invariant-loop-j
invariant-loop-j l = (l.j ≤ 32) × (length l.cube ≡ length l.initial.cube) × Exact l.j l.p l.settled l.cube
