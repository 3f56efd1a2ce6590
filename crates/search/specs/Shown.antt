-- What the search answers, and what it leaves in both buffers.
use Rattle.std.specs.Prelude.{Option as Maybe, Some, None}
use Rattle.std.specs.Prelude.{◌≡◌, ℕ, ◌*◌, ◌≤◌, List, length}
use Rattle.lists.specs.Lists.{overlay}
use Rattle.sheet.specs.Sheet.{Sheet}
use Rattle.model.specs.Mutant.{IsMutant}
use Rattle.model.specs.Suite.{compare_of}
use Rattle.model.specs.Log.{Observation}
use Rattle.block.specs.Layout.{states_of, slots_of}
use Rattle.block.specs.Tabled.{Tabled}
use Rattle.cubes.specs.declared.goal.Goal.{Goal}
use Rattle.model.specs.Compare.{found}
use Rattle.machine.specs.Differences.{Difference, difference_of}
use Rattle.search.specs.Search.{Part, NoneOf, FirstOf, mutant_in}

-- there is room for the choices, and for any shortest distinguishing sequence
pub record Room (m board sequence : List ℕ) : Type 0 where
  pub choices : slots_of m ≤ length board
  pub inputs : states_of m * states_of m ≤ length sequence

-- p has all the choices of a mutant of the sheet
pub record Showing (sh : Sheet) (m p : List ℕ) : Type 0 where
  pub tabled : Tabled sh m
  pub is : IsMutant sh (mutant_in sh p)
  pub long : length p ≡ 32

-- both buffers are as they were
pub record Untouched (old_board new_board old_sequence new_sequence : List ℕ) : Type 0 where
  pub board : new_board ≡ old_board
  pub sequence : new_sequence ≡ old_sequence

-- the mutant stands at the front of the one buffer, and what tells it from the specification, if anything does, at the other's
pub record Written (sh : Sheet) (b : List ℕ) (d : Difference) (old_board new_board old_sequence new_sequence : List ℕ) : Type 0 where
  pub difference : d ≡ difference_of (compare_of sh b)
  pub board : new_board ≡ overlay b old_board
  pub sequence : new_sequence ≡ overlay (found (compare_of sh b)) old_sequence

-- the first wanted mutant of a part is written
pub record Shown (goal : Goal) (sh : Sheet) (l : List Observation) (part : Part) (d : Difference) (old_board new_board old_sequence new_sequence : List ℕ) : Type 0 where
  pub mutant : List ℕ
  pub first : FirstOf goal sh l part mutant
  pub written : Written sh mutant d old_board new_board old_sequence new_sequence

abbrev pub Leaves : Goal → Sheet → List Observation → Part → Maybe Difference → List ℕ → List ℕ → List ℕ → List ℕ → Type 0
Leaves goal sh l part None old_board new_board old_sequence new_sequence = NoneOf goal sh l part × Untouched old_board new_board old_sequence new_sequence
Leaves goal sh l part (Some d) old_board new_board old_sequence new_sequence = Shown goal sh l part d old_board new_board old_sequence new_sequence
