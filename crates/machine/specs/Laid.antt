-- A mutant with all its choices, and what it does laid out in tables.
use Rattle.std.specs.Prelude.{ℕ, ◌/◌, ◌%◌, ◌<◌, ◌≡◌, List, length, get_or}
use Rattle.sheet.specs.Sheet.{Sheet}
use Rattle.model.specs.Machine.{Move}
use Rattle.model.specs.Mutant.{slots}
use Rattle.block.specs.Tabulated.{choices_at, chosen}
use Rattle.block.specs.declared.layout.Step.{Step}

-- each choice of p is one of its pair's
pub record Chosen (m p : List ℕ) : Type 0 where
  pub at : (k : ℕ) → k < 257 → chosen m p k < choices_at m k

-- p has the choices of the mutant b; past the last slot it is free
pub record Settles (sh : Sheet) (p b : List ℕ) : Type 0 where
  pub at : (j : ℕ) → j < length (slots sh) → get_or p j 0 ≡ get_or b j 0

abbrev pub as_move : Step → Move
as_move r = record { output = r.output; target = r.target }

-- at each index before i, state * 16 + input, the tables hold what the machine does
pub record Moves (move : ℕ → ℕ → Move) (outputs targets : List ℕ) (i : ℕ) : Type 0 where
  pub output : (t : ℕ) → t < i → get_or outputs t 0 ≡ (move (t / 16) (t % 16)).output
  pub target : (t : ℕ) → t < i → get_or targets t 0 ≡ (move (t / 16) (t % 16)).target
