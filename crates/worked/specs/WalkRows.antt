-- 02, Point 8: walks over the mutants that pass, and tests added, by computation: whole walks of P1 and P4, P9's first boards, a test added at the
-- start, in the middle and after the end, and each number with which a take or an addition is refused, in their order.
use Rattle.std.specs.Prelude.{ℕ, zero, suc, ◌≡◌, refl, List, [], ◌∷◌, ◌++◌, replicate}
use Rattle.std.proofs.Math.Option.{Option, none, some}
use Rattle.sheet.specs.Sheet.{Sheet}
use Rattle.sheet.specs.Encode.{encode, body}
use Rattle.sheet.specs.Reading.{Result, accepted, refused, reading, with_tests}
use Rattle.model.specs.Walk.{Standing, start, after, end, Taken, keep, rest, take_of, take_on, taking}
use Rattle.adding.specs.Adding.{one_press, pressing, add_on, adding}
use Rattle.worked.specs.Sheets.{p1, p4machine, p4, p9, many_tests}
use Rattle.worked.specs.Rows.{computing, sheet_of}

-- a mutant that conforms, and one that departs
abbrev conforms : List ℕ → Taken
conforms b = record { mutant = b; compared = none }

abbrev departs : List ℕ → List ℕ → Taken
departs b xs = record { mutant = b; compared = some xs }

-- what comes after a take
abbrev on_taken : Result (Option Taken) → (Taken → List Taken) → List Taken
on_taken (accepted (some t)) f = f t
on_taken (accepted none) f = []
on_taken (refused number place) f = []

-- takes one after another from a place on until the end, so many at most
unfoldable pub walked : ℕ → List ℕ → Standing → List Taken
walked zero s place = []
walked (suc n) s place = on_taken (taking s place 32 256) (λ t. t ∷ walked n s (after t.mutant))

pub data Row : Type 0 where
  take : List ℕ → Standing → ℕ → ℕ → Result (Option Taken) → Row
  walk : ℕ → List ℕ → Standing → List Taken → Row
  add : List ℕ → List ℕ → ℕ → Result (List ℕ) → Row
  add-to : Sheet → List ℕ → ℕ → Result (List ℕ) → Row

unfoldable pub Holds : Row → Type 0
Holds (take s place board_room sequence_room r) = taking s place board_room sequence_room ≡ r
Holds (walk n s place ts) = walked n s place ≡ ts
Holds (add s xs room r) = adding s xs room ≡ r
Holds (add-to sh xs room r) = add_on sh xs room ≡ r

unfoldable pub AllHold : List Row → Type 0
AllHold [] = Unit {0}
AllHold (r ∷ rs) = Holds r × AllHold rs

-- the sequences 0 1 0 and, of P9, 1 0 1 0 0 1 0
abbrev aba : List ℕ
aba = 0 ∷ 1 ∷ 0 ∷ []

abbrev babaaba : List ℕ
babaaba = 1 ∷ 0 ∷ 1 ∷ 0 ∷ 0 ∷ 1 ∷ 0 ∷ []

-- P4 with the test 0 1 0 after its own
unfoldable pub p4longer : List ℕ
p4longer = p4machine ++ 0x04 ∷ 0x05 ∷ 0 ∷ 0x05 ∷ 1 ∷ 0x04 ∷ 0x05 ∷ 0 ∷ 0x05 ∷ 1 ∷ 0x05 ∷ 0 ∷ 0x06 ∷ []

-- one state, one RULE, two inputs
unfoldable pub looped : List ℕ
looped = 0x01 ∷ 1 ∷ 2 ∷ 1 ∷ 0x02 ∷ 0 ∷ 0 ∷ 0 ∷ 0 ∷ 0x06 ∷ []

-- the same with 31 tests of 256 presses: 15,913 bytes
abbrev large : Sheet
large = with_tests (sheet_of (reading looped)) (replicate 31 (replicate 256 0))

unfoldable pub rows : List Row
rows =
    take p1 start 1 4 (accepted (some (conforms (0 ∷ []))))
    ∷ take p1 (after (0 ∷ [])) 1 4 (accepted (some (departs (1 ∷ []) aba)))
    ∷ take p1 (after (1 ∷ [])) 1 4 (accepted none)
    ∷ walk 3 p1 start (conforms (0 ∷ []) ∷ departs (1 ∷ []) aba ∷ [])
    ∷ walk 9 p4 start
    (conforms (0 ∷ 0 ∷ []) ∷ departs (0 ∷ 1 ∷ []) aba ∷ conforms (1 ∷ 0 ∷ []) ∷ departs (1 ∷ 1 ∷ []) aba
    ∷ conforms (2 ∷ 0 ∷ []) ∷ departs (2 ∷ 1 ∷ []) aba ∷ conforms (3 ∷ 0 ∷ []) ∷ departs (3 ∷ 1 ∷ []) aba ∷ [])
    -- a test added: at the start, after the third board, after the end
    ∷ add p4 aba 37 (accepted p4longer)
    ∷ walk 9 p4longer start (conforms (0 ∷ 0 ∷ []) ∷ conforms (1 ∷ 0 ∷ []) ∷ conforms (2 ∷ 0 ∷ []) ∷ conforms (3 ∷ 0 ∷ []) ∷ [])
    ∷ walk 9 p4longer (after (1 ∷ 0 ∷ [])) (conforms (2 ∷ 0 ∷ []) ∷ conforms (3 ∷ 0 ∷ []) ∷ [])
    ∷ take p4 end 2 4 (accepted none)
    ∷ take p4longer end 2 4 (accepted none)
    -- P9's first boards
    ∷ walk 2 p9 start (conforms (0 ∷ 0 ∷ 0 ∷ 0 ∷ []) ∷ departs (0 ∷ 0 ∷ 0 ∷ 1 ∷ []) babaaba ∷ [])
    -- reading, then 13, then 14, then 16 at 0, then at 1, also at the end
    ∷ take [] (after (9 ∷ [])) 0 0 (refused 2 0)
    ∷ take p4 (after (0 ∷ [])) 0 0 (refused 13 0)
    ∷ take p4 (after (4 ∷ 2 ∷ [])) 0 0 (refused 14 0)
    ∷ take p4 (after (3 ∷ 2 ∷ [])) 0 0 (refused 14 1)
    ∷ take p4 (after (3 ∷ 1 ∷ [])) 1 3 (refused 16 0)
    ∷ take p4 (after (3 ∷ 1 ∷ [])) 2 3 (refused 16 1)
    ∷ take p4 start 1 4 (refused 16 0)
    ∷ take p4 end 1 3 (refused 16 0)
    ∷ take p4 end 2 3 (refused 16 1)
    -- reading; 8 with 256 tests, before 5; press by press 5, 8, 9, each at its index
    ∷ add [] (9 ∷ []) 0 (refused 2 0)
    ∷ add (many_tests 256) (9 ∷ []) 0 (refused 8 0)
    ∷ add (many_tests 255) [] 261 (accepted (many_tests 256))
    ∷ add p1 (0 ∷ 2 ∷ 1 ∷ []) 0 (refused 5 1)
    ∷ add looped (replicate 256 0 ++ 0 ∷ []) 0 (refused 8 256)
    ∷ add looped (replicate 256 0 ++ 1 ∷ []) 0 (refused 8 256)
    ∷ add looped (replicate 256 0 ++ 2 ∷ []) 0 (refused 5 256)
    ∷ add p4 (1 ∷ []) 0 (refused 9 0)
    ∷ add p4 (0 ∷ 1 ∷ 1 ∷ []) 0 (refused 9 2)
    -- then 1, then 16; 9 before 1
    ∷ add-to large (replicate 256 0) 0 (refused 1 0)
    ∷ add-to large (replicate 255 0 ++ 1 ∷ []) 0 (refused 9 255)
    ∷ add-to large (replicate 235 0) 16383 (refused 16 0)
    ∷ add p4 aba 36 (refused 16 0)
    ∷ []

pub rows-hold : AllHold rows
unfolding computing rows Holds AllHold walked keep rest take_of take_on taking one_press pressing add_on adding encode body p4longer looped
rows-hold = (refl, (refl, (refl, (refl, (refl, (refl, (refl, (refl, (refl, (refl, (refl, (refl, (refl, (refl, (refl, (refl, (refl, (refl, (refl, (refl, (refl, (refl, (refl, (refl, (refl, (refl, (refl, (refl, (refl, (refl, (refl, (refl, (refl, tt)))))))))))))))))))))))))))))))))
