-- Longer suites: the same machine with another test suite (02, Points 6 and 14).
use Rattle.std.specs.Prelude.{ℕ}
use mathlib.Core.List.{List, [], ◌∷◌, ◌++◌, Memᴰ}
use Rattle.sheet.specs.Sheet.{Sheet}
use Rattle.sheet.specs.Reading.{with_tests}

-- the sheet with one test more, the last
abbrev pub with_test : Sheet → List ℕ → Sheet
with_test sh xs = with_tests sh (sh.tests ++ xs ∷ [])

-- tests are added, none is removed: every test of the one list is in the other
abbrev pub Among : List (List ℕ) → List (List ℕ) → Type 0
Among ts us = (t : List ℕ) → Memᴰ t ts → Memᴰ t us
