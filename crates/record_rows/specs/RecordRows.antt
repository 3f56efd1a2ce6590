-- 02, Point 9: records of locks, from the bytes of sheet and record to the whole answers, by computation.
use Rattle.std.specs.Prelude.{ℕ, ◌≡◌, refl, Bool, true, false, List, [], ◌∷◌, ◌++◌}
use Rattle.std.proofs.Math.Option.{Option, none, some}
use Rattle.sheet.specs.Reading.{Result, accepted, refused}
use Rattle.model.specs.Log.{failed_in}
use Rattle.model.specs.Walk.{keep, Taken}
use Rattle.block.specs.Logged.{observations}
use Rattle.worked.specs.Sheets.{p1, p4, p9, p1start, p4quiet}
use Rattle.worked.specs.Rows.{computing}
use Rattle.records.specs.Record.{broken_from, broken_in, differs_from, differs_in, giving, first_giving, Outcome, outcome_of, checking, explain_on, explaining}

-- a sheet, a record, and what is to be answered
pub data Row : Type 0 where
  check : List ℕ → List ℕ → Result Outcome → Row
  explain : List ℕ → List ℕ → ℕ → ℕ → Result (Option Taken) → Row

abbrev pub Holds : Row → Type 0
Holds (check s log r) = checking s log ≡ r
Holds (explain s log board_room sequence_room r) = explaining s log board_room sequence_room ≡ r

unfoldable pub AllHold : List Row → Type 0
AllHold [] = Unit {0}
AllHold (r ∷ rs) = Holds r × AllHold rs

abbrev told : Option ℕ → Bool → Result Outcome
told first given = accepted (record { first = first; given = given })

-- the inputs 0 1 0 and what board 1 of P1 gives; the specification's last output is 1
abbrev board1 : List ℕ
board1 = 0x10 ∷ 0x11 ∷ 0 ∷ 1 ∷ 0x11 ∷ 1 ∷ 1 ∷ 0x11 ∷ 0 ∷ 0 ∷ []

abbrev board0 : List ℕ
board0 = 0x10 ∷ 0x11 ∷ 0 ∷ 1 ∷ 0x11 ∷ 1 ∷ 1 ∷ 0x11 ∷ 0 ∷ 1 ∷ []

-- a record of a board; one that no board gives; two runs that no single board gives; an undefined press before a difference, and after it
-- nothing until the next PULSE; with QUIET; the empty record and PULSEs alone; where a board wakes, the same at each PULSE; each cause of 20
unfoldable pub rows : List Row
rows =
    check p1 board1 (told (some 7) true)
    ∷ check p1 board0 (told none true)
    ∷ check p1 (0x10 ∷ 0x11 ∷ 0 ∷ 0 ∷ []) (told (some 1) false)
    ∷ check p1 (board0 ++ board1) (told (some 17) false)
    ∷ check p4 (0x10 ∷ 0x11 ∷ 1 ∷ 1 ∷ 0x11 ∷ 0 ∷ 0 ∷ []) (told none true)
    ∷ check p4 (0x10 ∷ 0x11 ∷ 1 ∷ 1 ∷ 0x11 ∷ 0 ∷ 0 ∷ 0x10 ∷ 0x11 ∷ 0 ∷ 0 ∷ []) (told (some 8) false)
    ∷ check p9 (0x10 ∷ 0x11 ∷ 1 ∷ 0 ∷ 0x11 ∷ 1 ∷ 0 ∷ 0x11 ∷ 0 ∷ 1 ∷ []) (told none true)
    ∷ check p4quiet (0x10 ∷ 0x11 ∷ 1 ∷ 1 ∷ []) (told none false)
    ∷ check p1 [] (told none true)
    ∷ check p1 (0x10 ∷ 0x10 ∷ []) (told none true)
    ∷ check p1start (0x10 ∷ 0x11 ∷ 1 ∷ 1 ∷ 0x10 ∷ 0x11 ∷ 1 ∷ 1 ∷ []) (told (some 1) true)
    ∷ check p1start (0x10 ∷ 0x11 ∷ 1 ∷ 1 ∷ 0x10 ∷ 0x11 ∷ 1 ∷ 0 ∷ []) (told (some 1) false)
    ∷ check p1 (0x11 ∷ 0 ∷ 1 ∷ []) (refused 20 0)
    ∷ check p1 (0x10 ∷ 0x12 ∷ []) (refused 20 1)
    ∷ check p1 (0x10 ∷ 0x11 ∷ 0 ∷ []) (refused 20 1)
    ∷ check p1 (0x10 ∷ 0x11 ∷ 0 ∷ 1 ∷ 0x11 ∷ []) (refused 20 4)
    ∷ check p1 (0x10 ∷ 0x11 ∷ 2 ∷ 0 ∷ []) (refused 20 1)
    ∷ check p1 (0x10 ∷ 0x11 ∷ 0 ∷ 2 ∷ []) (refused 20 1)
    ∷ check [] (0 ∷ []) (refused 2 0)
    ∷ explain p1 board1 1 4 (accepted (some (record { mutant = 1 ∷ []; compared = some (0 ∷ 1 ∷ 0 ∷ []) })))
    ∷ explain p1 board0 1 4 (accepted (some (record { mutant = 0 ∷ []; compared = none })))
    ∷ explain p1 (board0 ++ board1) 1 4 (accepted none)
    ∷ explain p1 (0x12 ∷ []) 0 0 (refused 20 0)
    ∷ explain p1 board1 0 0 (refused 16 0)
    ∷ explain p1 board1 1 3 (refused 16 1)
    ∷ []

infixr 5 ◌&◌
◌&◌ : {A B : Type 0} → A → B → A × B
a & b = (a, b)

pub rows-hold : AllHold rows
unfolding computing rows AllHold keep failed_in observations broken_from broken_in differs_from differs_in giving first_giving outcome_of checking explain_on explaining
rows-hold = refl & refl & refl & refl & refl & refl & refl & refl & refl & refl & refl & refl & refl & refl & refl & refl & refl & refl & refl & refl & refl & refl & refl & refl & refl & tt
