-- Literals that steer: which transitions.
use Rattle.std.specs.Prelude.{◌≡◌, ℕ, ◌/◌, ◌%◌, ◌<◌, ◌⊎◌, List, length, slice_index}
use Rattle.model.specs.Machine.{Move}
use Rattle.cubes.specs.Sets.{Has, HasAll}
use Rattle.cubes.specs.Cube.{Means, MeansStep}

-- the literal means the transition, and no other
pub record MeansOnly (l o t : ℕ) : Type 0 where
  pub here : MeansStep l o t
  pub output : (v : Move) → Means l v → v.output ≡ o
  pub target : (v : Move) → Means l v → v.target ≡ t

-- each literal means all transitions, or those with one output below 16 and some next states
pub record Literals (cube : List ℕ) : Type 0 where
  pub at : (j : ℕ) → j < 32 → (slice_index cube j ≡ 4294967295) ⊎ (slice_index cube j < 1048576)

-- the literal of suspect j: if that is settled, its transition (output * 16 + next state) alone, else all
pub record Settles (settled j step l : ℕ) : Type 0 where
  pub meant : Has settled j → MeansOnly l (step / 16) (step % 16)
  pub free : (Has settled j → ⊥) → l ≡ 4294967295

-- the cube of a settled part, at the suspects below n
pub record Exact (n : ℕ) (p : List ℕ) (settled : ℕ) (cube : List ℕ) : Type 0 where
  pub at : (j : ℕ) → j < n → j < length cube → Settles settled j (slice_index p j) (slice_index cube j)
