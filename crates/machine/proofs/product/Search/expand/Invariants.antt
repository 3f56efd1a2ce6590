-- `expand`: up to the input x the pairs that entry h leads to are entered.
use Prim.Native.Nat.{ℕ, ◌*◌}
use mathlib.Core.Path.{◌≡◌}
use Rattle.block.specs.Layout.{inputs_of}
use Rattle.machine.specs.Product.{tables}
use Rattle.machine.specs.Tree.{Tree}
use Rattle.machine.proofs.TreeLaw.{Expanding}
use Rattle.machine.proofs.product.Search.expand.Given as goal

abbrev pub invariant-loop-x : goal.invariant-loop-x
invariant-loop-x l = (l.k ≡ inputs_of l.block)
    × ((start : ℕ) → Tree (tables l.block start l.outputs l.targets) l.initial.self.entries l.initial.self.seen l.initial.self.count (16 * l.h) → Expanding (tables l.block start l.outputs l.targets) l.self.entries l.self.seen l.self.count l.h l.v l.x)
