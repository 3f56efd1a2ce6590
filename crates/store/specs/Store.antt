-- The store of cubes in which no mutant is sought: entries, each a cube, the set of suspects it speaks of, and its age. An age of
-- 0 says that the entry is not in use.
use Rattle.std.specs.Prelude.{◌≡◌, List, ℕ, ◌<◌, ◌≤◌, length, get_or, Option as Maybe, IfSome}
use Rattle.block.specs.Tabulated.{Wf}
use Rattle.cubes.specs.Cube.{NoneIn}
use Rattle.cubes.specs.declared.goal.Goal.{Goal}
use Rattle.store.specs.declared.entries.Entry.{Entry}

-- in no entry in use is a mutant sought
pub record StoreOk (goal : Goal) (m log : List ℕ) (store : List Entry) : Type 0 where
  pub at : (e : ℕ) (d : Entry) → e < length store → 1 ≤ (get_or store e d).age → NoneIn goal m log (get_or store e d).cube

-- it has its cube, and is in use as it was
pub record Aged (old new : Entry) : Type 0 where
  pub cube : new.cube ≡ old.cube
  pub used : 1 ≤ new.age → 1 ≤ old.age
  pub stays : 1 ≤ old.age → 1 ≤ new.age

-- what is told, if a cube is, is right
abbrev pub ToldOk : Goal → List ℕ → List ℕ → Maybe (List ℕ) → Type 0
ToldOk goal m log r = IfSome r (λ cube. NoneIn goal m log cube)

-- a right store stays one
pub record Kept (old new : List Entry) : Type 0 where
  pub at : (goal : Goal) (m log : List ℕ) → StoreOk goal m log old → StoreOk goal m log new

-- a right store tells it
pub record Tells (store : List Entry) (r : Maybe (List ℕ)) : Type 0 where
  pub at : (goal : Goal) (m log : List ℕ) → StoreOk goal m log store → ToldOk goal m log r

-- a right store stays one if no mutant in the cube is sought
pub record Learns (old new : List Entry) (cube : List ℕ) : Type 0 where
  pub at : (goal : Goal) (m log : List ℕ) → Wf m → StoreOk goal m log old → NoneIn goal m log cube → StoreOk goal m log new
