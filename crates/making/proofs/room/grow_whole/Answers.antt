-- `grow_whole`: the store is not empty.
use native.Mathlib.Omega.{arith}
use mathlib.Core.Path.{sym}
use Prim.Native.Nat.{ℕ}
use lib.ListN.{length-replicate}
use lib.Seq.{length-take-le}
use Rattle.block.specs.laws.TabledLaw.{well-formed}
use Rattle.making.proofs.room.grow_whole.Goals as goal

pub slice_bounds-prepare-end : goal.slice_bounds-prepare-end
slice_bounds-prepare-end c = c.requires.2.held.inside

pub slice_bounds-prepare-end-2 : goal.slice_bounds-prepare-end-2
slice_bounds-prepare-end-2 c = sym (length-take-le _ _ c.requires.2.held.inside)

pub prepare-ready-requires : goal.prepare-ready-requires
prepare-ready-requires c = (well-formed c.requires.2.held.suite.tabled, length-replicate {A = ℕ} 1088 0)

pub grow-requires : goal.grow-requires
grow-requires c = record { facts_len = (c.requires, c.prepare-ready.ensures.0); ready = (c.prepare-ready.ensures.1, c.fresh_store-store.ensures _ _ _); some = omega arith }
