-- `distinguish`: the entries before h are expanded, and the buffer is as it was.
use Prim.Native.Nat.{◌*◌, ◌≤◌, ◌-◌}
use mathlib.Core.Path.{◌≡◌}
use Rattle.machine.specs.Product.{tables}
use Rattle.machine.specs.Tree.{Tree}
use Rattle.machine.proofs.product.distinguish.Given as goal

abbrev pub invariant-loop-h : goal.invariant-loop-h
invariant-loop-h l = (l.buf ≡ l.initial.buf) × (l.h ≤ l.search.count) × Tree (tables l.block l.start l.outputs l.targets) l.search.entries l.search.seen l.search.count (16 * l.h)

abbrev pub decreases-loop-h : goal.decreases-loop-h
decreases-loop-h l = 256 - l.h
