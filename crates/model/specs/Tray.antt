-- 02's Point 11, a tray of boards: the first failed test of each of several mutants.
use Rattle.std.specs.Prelude.{ℕ, zero, suc, ◌*◌, ◌<◌, ◌≡◌, not, List, [], ◌∷◌, ◌++◌, map, eqb, ltb, length, get_or, take, drop}
use Rattle.std.proofs.Math.Option.{Option, none, some}
use Rattle.sheet.specs.Sheet.{Sheet}
use Rattle.sheet.specs.Reading.{Result, accepted, reading}
use Rattle.model.specs.Mutant.{slots, IsMutant}
use Rattle.model.specs.Suite.{Place, first_failed_of, finding_of}
use Rattle.model.specs.Operations.{reads, refuse_if, refuse_at, first_high, failing}

-- the number of the first failed test; 65,535 for none
abbrev pub result_of : Option Place → ℕ
result_of none = 65535
result_of (some f) = f.test

-- the mutants of a tray, n choices each
unfoldable pub boards_in : ℕ → ℕ → List ℕ → List (List ℕ)
boards_in zero n tray = []
boards_in (suc boards) n tray = take n tray ∷ boards_in boards n (drop n tray)

-- how many choices each byte of a tray has
unfoldable pub slots_for : ℕ → List ℕ → List ℕ
slots_for zero cs = []
slots_for (suc boards) cs = cs ++ slots_for boards cs

-- 13: the length is not the number of boards times the choices of one; 14: a choice out of range, at its index in the tray; 16: fewer result
-- numbers than boards
unfoldable pub try_on : Sheet → ℕ → List ℕ → ℕ → Result (List ℕ)
try_on sh boards tray room =
    refuse_if (not (eqb (length tray) (boards * length (slots sh)))) 13 0
    (refuse_at (first_high (slots_for boards (slots sh)) tray) 14
    (refuse_if (ltb room boards) 16 0 (accepted (map (λ (b : List ℕ). result_of (first_failed_of sh b)) (boards_in boards (length (slots sh)) tray)))))

unfoldable pub trying : List ℕ → ℕ → List ℕ → ℕ → Result (List ℕ)
trying s boards tray room = reads (reading s) (λ sh. try_on sh boards tray room)

-- ---- what it means: the outcome equals the boards taken singly
-- board i of a tray
abbrev pub board_at : Sheet → List ℕ → ℕ → List ℕ
board_at sh tray i = take (length (slots sh)) (drop (i * length (slots sh)) tray)

-- each is a mutant, and its result is what First failed test answers of it alone
pub record TrayMeans (s : List ℕ) (sh : Sheet) (boards : ℕ) (tray results : List ℕ) : Type 0 where
  pub many : length results ≡ boards
  pub mutants : (i : ℕ) → i < boards → IsMutant sh (board_at sh tray i)
  pub singly : (i : ℕ) → i < boards → failing s (board_at sh tray i) ≡ accepted (finding_of sh (board_at sh tray i))
  pub each : (i : ℕ) → i < boards → get_or results i 0 ≡ result_of (finding_of sh (board_at sh tray i)).first
