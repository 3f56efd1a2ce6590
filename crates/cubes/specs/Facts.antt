-- What the filling of the facts promises.
use Rattle.std.specs.Prelude.{◌≡◌, Bool, true, List, ℕ, ◌+◌, ◌*◌, ◌<◌, length, get_or}
use Rattle.cubes.specs.Sets.{Has, Grows}
use Rattle.block.specs.Layout.{site_at, choices_of}
use Rattle.block.specs.Tabulated.{choice_of}
use Rattle.cubes.specs.Cube.{FreeOk}

-- choice c of the pair k is in the facts
pub record ChoiceIn (m facts : List ℕ) (k c : ℕ) : Type 0 where
  pub few : (choice_of m k c).output < 16
  pub going : Has (get_or facts (site_at m k * 16 + (choice_of m k c).output) 0) (choice_of m k c).target
  pub sounding : Has (get_or facts (512 + site_at m k) 0) (choice_of m k c).output

pub record PairIn (m facts : List ℕ) (k : ℕ) : Type 0 where
  pub at : (site_at m k ≡ 255 → ⊥) → (c : ℕ) → c < choices_of m (site_at m k) → ChoiceIn m facts k c

pub record Entered (m old new : List ℕ) (k c : ℕ) (r : Bool) : Type 0 where
  pub grows : Grows old new
  pub has : r ≡ true → ChoiceIn m new k c

pub record PairEntered (m old new : List ℕ) (k : ℕ) (r : Bool) : Type 0 where
  pub grows : Grows old new
  pub has : r ≡ true → PairIn m new k

pub record AllEntered (m facts : List ℕ) (r : Bool) : Type 0 where
  pub long : length facts ≡ 1088
  pub has : r ≡ true → FreeOk m facts
