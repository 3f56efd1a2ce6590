-- A tray on an accepted sheet: words for this crate's own functions.
use Rattle.std.specs.Prelude.{ℕ, ◌*◌, ◌<◌, ◌≤◌, ◌≡◌, List, map, length}
use Rattle.std.proofs.Math.Option.{Option, none, some}
use Rattle.sheet.specs.Sheet.{Sheet}
use Rattle.model.specs.Mutant.{slots, IsMutant}
use Rattle.model.specs.Suite.{Place, first_failed_of}
use Rattle.model.specs.Tray.{result_of, boards_in, board_at}

-- a test's number has 16 bits
abbrev pub Low : Option Place → Type 0
Low none = Unit {0}
Low (some f) = f.test < 65536

-- so many mutants, and a number for each
pub record TrayOf (sh : Sheet) (boards : ℕ) (tray : List ℕ) (room : ℕ) : Type 0 where
  pub long : length tray ≡ boards * length (slots sh)
  pub mutants : (i : ℕ) → i < boards → IsMutant sh (board_at sh tray i)
  pub fits : boards ≤ room

-- the result of each
abbrev pub results_of : Sheet → ℕ → List ℕ → List ℕ
results_of sh boards tray = map (λ (b : List ℕ). result_of (first_failed_of sh b)) (boards_in boards (length (slots sh)) tray)
