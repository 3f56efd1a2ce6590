-- The pairs of states in reach, as far as they are known.
use Rattle.std.specs.Prelude.{◌≡◌, List, ℕ, ◌/◌, ◌%◌, ◌<◌, ◌≤◌, get_or}
use Rattle.block.specs.Layout.{states_of}
use Rattle.block.specs.Tabulated.{Ranged, start_of}
use Rattle.cubes.specs.Sets.{Has, HasAll, Grows}
use Rattle.cubes.specs.Cube.{CellOk}
use Rattle.walks.specs.Walks.{Agrees}
use Rattle.walks.specs.declared.reach.Reach.{Reach}
use Rattle.walks.specs.declared.reach.Stop.TheVariants.{Closed}

-- no pair is lost, and one is met
pub record Met (old new : List ℕ) (s q : ℕ) : Type 0 where
  pub grows : Grows old new
  pub here : q < 16 → Has (get_or new s 0) q

-- more is in reach, or is known to be
pub record Further (old new : List ℕ) (before after : Reach) : Type 0 where
  pub grows : Grows old new
  pub used : HasAll before.used after.used
  pub few : before.count ≤ 256 → after.count ≤ 256
  pub free : after.stop ≡ Closed → before.stop ≡ Closed

-- the pair of the specification's start and the mutant's, with the mutants that have the choices settled at the suspects used
pub record StartReached (m p old new : List ℕ) (r : Reach) : Type 0 where
  pub grows : Grows old new
  pub few : r.count ≤ 256
  pub start : r.stop ≡ Closed → (b : List ℕ) → Ranged m b → Agrees p r.used b → Has (get_or new 0 0) (start_of m b)

-- the pair of states k / 16 and k % 16, with the mutants that have the choices settled at the suspects used, on the input x
pub record CellKnown (m p rows : List ℕ) (r : Reach) (k x : ℕ) : Type 0 where
  pub at : r.stop ≡ Closed → k % 16 < states_of m → CellOk m (Agrees p r.used) rows (k / 16) (k % 16) x

pub record CellReached (m p old new : List ℕ) (before after : Reach) (k x : ℕ) : Type 0 where
  pub further : Further old new before after
  pub cell : CellKnown m p new after k x

-- on every input below n
pub record RowReached (m p old new : List ℕ) (before after : Reach) (k n : ℕ) : Type 0 where
  pub further : Further old new before after
  pub row : (x : ℕ) → x < n → CellKnown m p new after k x

pub record AllWithin (m rows done : List ℕ) : Type 0 where
  pub at : (s : ℕ) → s < states_of m → HasAll (get_or rows s 0) (get_or done s 0)
