-- A cube that has every mutant with the choices of a prefix.
use Rattle.std.specs.Prelude.{◌≡◌, List, ℕ, ◌<◌, get_or}
use Rattle.block.specs.Layout.{site_at}
use Rattle.block.specs.Tabulated.{Ranged, choice_of, chosen}
use Rattle.cubes.specs.Cube.{Means, In, Extends}

-- every mutant that has the choices that p settles is in the cube, as far as the slot i goes
pub record SlotHas (m cube p : List ℕ) (i : ℕ) : Type 0 where
  pub at : (k : ℕ) → k < 257 → site_at m k ≡ i → (b : List ℕ) → Ranged m b → Extends b p → Means (get_or cube i 0) (choice_of m k (chosen m b k))

pub record PrefixIn (m cube p : List ℕ) : Type 0 where
  pub at : (b : List ℕ) → Ranged m b → Extends b p → In m cube b
