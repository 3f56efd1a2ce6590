-- What the walk of a cube along a log promises.
use Rattle.std.specs.Prelude.{◌≡◌, List, ℕ, ◌<◌}
use Rattle.cubes.specs.Sets.{Has}
use Rattle.block.specs.Layout.{states_of}
use Rattle.block.specs.Tabulated.{Ranged, choice_of, step_of}
use Rattle.cubes.specs.Cube.{In}

pub record LoneLead (m : List ℕ) (k o r : ℕ) : Type 0 where
  pub at : (choice_of m k 0).output ≡ o → Has r (choice_of m k 0).target

-- a mutant in the cube that is at q, one of the set, and gives the output o on x goes to a state in r
pub record LeadOk (m cube : List ℕ) (set q x o r : ℕ) : Type 0 where
  pub at : Has set q → (b : List ℕ) → Ranged m b → In m cube b → (step_of m b q x).output ≡ o → Has r (step_of m b q x).target

pub record OnwardOk (m cube : List ℕ) (set x o r : ℕ) : Type 0 where
  pub at : (q : ℕ) → q < states_of m → LeadOk m cube set q x o r
