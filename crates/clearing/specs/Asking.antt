-- What a cube without survivor clears.
use Rattle.std.specs.Prelude.{◌≡◌, List, ℕ, ◌<◌, get_or}
use Rattle.sheet.specs.Sheet.{Sheet}
use Rattle.block.specs.Layout.{site_at, choices_of}
use Rattle.block.specs.Tabulated.{choice_of}
use Rattle.cubes.specs.Sets.{Has, HasAll}
use Rattle.cubes.specs.Cube.{Means, In, NoneIn}
use Rattle.cubes.specs.declared.goal.Goal.TheVariants.{Nonconforming}
use Rattle.search.specs.Search.{ForSheet}
use Rattle.clearing.specs.declared.order.Clearing.{Clearing}
use Rattle.clearing.specs.Sweep.{Clears}

-- nothing is lost from the set, and it has j unless l means every choice
pub record SpeaksTo (old l j new : ℕ) : Type 0 where
  pub more : HasAll old new
  pub here : (l ≡ 4294967295 → ⊥) → Has new j

-- the set has the slots before n of which the cube speaks
pub record Speaks (cube : List ℕ) (set n : ℕ) : Type 0 where
  pub at : (j : ℕ) → j < n → (get_or cube j 0 ≡ 4294967295 → ⊥) → Has set j

-- the choices of slot j after c and before d are meant by l
pub record Passed (m : List ℕ) (l j c d : ℕ) : Type 0 where
  pub more : c < d
  pub means : (k e : ℕ) → k < 257 → site_at m k ≡ j → c < e → e < d → e < choices_of m j → Means l (choice_of m k e)

-- where no survivor is in the cube, and p is in it
pub record CubeRefutes (m cube p : List ℕ) (c : Clearing) : Type 0 where
  pub at : (sh : Sheet) (log : List ℕ) → ForSheet sh m log → NoneIn Nonconforming m log cube → In m cube p → Clears sh p c
