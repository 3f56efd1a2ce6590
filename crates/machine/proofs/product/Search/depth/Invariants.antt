-- `depth`: what is counted and the inputs that lead to entry i are those that lead to entry h.
use Prim.Native.Nat.{ℕ, ◌+◌, ◌≤◌}
use mathlib.Core.Path.{◌≡◌}
use mathlib.Core.List.{List}
use lib.ListN.{length}
use Rattle.machine.specs.Tree.{Paths}
use Rattle.machine.proofs.product.Search.depth.Given as goal

abbrev pub invariant-loop-i : goal.invariant-loop-i
invariant-loop-i l = (l.n + l.i ≤ l.h) × ((path : ℕ → List ℕ) → Paths l.self.entries (l.h + 1) path → l.n + length (path l.i) ≡ length (path l.h))

abbrev pub decreases-loop-i : goal.decreases-loop-i
decreases-loop-i l = l.i
