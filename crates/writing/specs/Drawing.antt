-- A sheet as the tables of a drawing program, and back.
use Rattle.std.specs.Prelude.{ℕ, ◌+◌, ◌%◌, ◌≡◌, Bool, not, ◌&&◌, List, [], ◌∷◌, map, eqb, length, take, drop}
use Rattle.sheet.specs.declared.Row.{Row}
use Rattle.sheet.specs.declared.Size.{Size}
use Rattle.lists.specs.Lists.{joined}
use Rattle.sheet.specs.Sheet.{Sheet, row_of}

-- whether the sheet is quiet; rules and faults four bytes a row (s x o t); the STARTs' states; the lengths of the tests, and their inputs end to end
pub record Drawing : Type 0 where
  pub size : Size
  pub quiet : Bool
  pub rules : List ℕ
  pub faults : List ℕ
  pub starts : List ℕ
  pub lengths : List ℕ
  pub presses : List ℕ

abbrev pub drawing : Size → Bool → List ℕ → List ℕ → List ℕ → List ℕ → List ℕ → Drawing
drawing size quiet rules faults starts lengths presses =
    record { size = size; quiet = quiet; rules = rules; faults = faults; starts = starts; lengths = lengths; presses = presses }

-- the whole rows of a table
unfoldable pub rows_of : List ℕ → List Row
rows_of [] = []
rows_of (s ∷ []) = []
rows_of (s ∷ x ∷ []) = []
rows_of (s ∷ x ∷ o ∷ []) = []
rows_of (s ∷ x ∷ o ∷ t ∷ table) = record { source = s; input = x; output = o; target = t } ∷ rows_of table

unfoldable pub tests_of : List ℕ → List ℕ → List (List ℕ)
tests_of [] presses = []
tests_of (n ∷ lengths) presses = take n presses ∷ tests_of lengths (drop n presses)

unfoldable pub total : List ℕ → ℕ
total [] = 0
total (n ∷ lengths) = n + total lengths

-- no row is cut, and the lengths add up to the presses
pub record Whole (d : Drawing) : Type 0 where
  pub rules : length d.rules % 4 ≡ 0
  pub faults : length d.faults % 4 ≡ 0
  pub tests : total d.lengths ≡ length d.presses

-- a row is cut, or the lengths do not add up to the presses
unfoldable pub is_cut : Drawing → Bool
is_cut d = not (eqb (length d.rules % 4) 0 && (eqb (length d.faults % 4) 0 && eqb (total d.lengths) (length d.presses)))

-- the sheet of tables that are not cut
unfoldable pub sheet_of : Drawing → Sheet
sheet_of d =
    record {
      size = d.size;
      quiet = d.quiet;
      rules = rows_of d.rules;
      faults = rows_of d.faults;
      starts = d.starts;
      tests = tests_of d.lengths d.presses;
    }

-- the tables of a sheet
unfoldable pub drawing_of : Sheet → Drawing
drawing_of sh =
    record {
      size = sh.size;
      quiet = sh.quiet;
      rules = joined row_of sh.rules;
      faults = joined row_of sh.faults;
      starts = sh.starts;
      lengths = map length sh.tests;
      presses = joined (λ xs. xs) sh.tests;
    }
