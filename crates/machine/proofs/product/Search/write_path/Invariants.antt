-- `write_path`: from the last on, the inputs after those that lead to entry i are written.
use Prim.Native.Nat.{ℕ, ◌+◌, ◌≤◌, ◌<◌}
use mathlib.Core.Path.{◌≡◌}
use mathlib.Core.List.{List}
use lib.ListN.{length}
use Rattle.machine.specs.Tree.{Paths}
use Rattle.machine.proofs.PathLaw.{Written}
use Rattle.machine.proofs.product.Search.write_path.Given as goal

abbrev pub invariant-loop-n : goal.invariant-loop-n
invariant-loop-n l = (l.i ≤ l.h) × (l.n ≤ l.d) × (l.d < length l.initial.buf) × (length l.buf ≡ length l.initial.buf) × ((path : ℕ → List ℕ) → Paths l.self.entries (l.h + 1) path → Written path l.h l.x l.i l.n l.initial.buf l.buf)

abbrev pub decreases-loop-n : goal.decreases-loop-n
decreases-loop-n l = l.n
