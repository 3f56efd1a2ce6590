-- What the search for refutations works with, and what it finds.
use Rattle.std.specs.Prelude.{List, ℕ, Option as Maybe}
use Rattle.block.specs.Tabulated.{Wf}
use Rattle.cubes.specs.Cube.{FreeOk}
use Rattle.cubes.specs.declared.goal.Goal.{Goal}
use Rattle.mirror.specs.Mirror.{SwapsOk}
use Rattle.store.specs.Store.{StoreOk, ToldOk}
use Rattle.store.specs.declared.entries.Entry.{Entry}

-- the facts are the block's
pub record Ready (m facts : List ℕ) : Type 0 where
  pub wf : Wf m
  pub free : FreeOk m facts
  pub swaps : SwapsOk m facts

-- what is told is right, and so is the store
pub record Found (goal : Goal) (m log : List ℕ) (store : List Entry) (r : Maybe (List ℕ)) : Type 0 where
  pub told : ToldOk goal m log r
  pub kept : StoreOk goal m log store
