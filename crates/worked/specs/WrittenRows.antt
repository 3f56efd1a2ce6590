-- Sheets written from tables: P1, P9 and P10, P1 with a START, quiet sheets, and each number that tables can be refused with, in their order.
use Rattle.std.specs.Prelude.{ℕ, ◌≡◌, refl, Bool, true, false, List, [], ◌∷◌, ◌++◌, map, replicate}
use Rattle.sheet.specs.declared.Size.{Size}
use Rattle.lists.specs.Lists.{last, precedes, count, any, all}
use Rattle.sheet.specs.Sheet.{rows_at, rule_at, after, leads, reached_within, all_reached, unruled_choices, choices_at, is_open, open_below, open_pairs, wakings, waking_choices, waking_slots, open_slots}
use Rattle.sheet.specs.Reading.{Result, accepted, refused, first_broken, ascends, rises, last_test, rule_after, refusal, add_press, advance, finishing, doing, one_command, from, blank, reading}
use Rattle.sheet.specs.Encode.{row_bytes, operand_bytes, test_bytes, size_bytes, quiet_bytes, machine_bytes, body, encode}
use Rattle.writing.specs.Drawing.{Drawing, drawing, rows_of, tests_of, total, is_cut, sheet_of}
use Rattle.writing.specs.Writing.{writing}
use Rattle.worked.specs.Sheets.{p1machine, p1, p9machine, bababa, p9, p10, p1start, start31}

-- tables, the buffer's length, and the answer
pub record Row : Type 0 where
  pub tables : Drawing
  pub room : ℕ
  pub result : Result (List ℕ)

abbrev row : Drawing → ℕ → Result (List ℕ) → Row
row tables room result = record { tables = tables; room = room; result = result }

abbrev size : ℕ → ℕ → ℕ → Size
size n k m = record { states = n; inputs = k; outputs = m }

-- P1, with other faults, STARTs and tests
abbrev p1starts : List ℕ → List ℕ → List ℕ → List ℕ → Drawing
p1starts faults starts lengths presses =
    drawing (size 2 2 2) false (0 ∷ 0 ∷ 1 ∷ 1 ∷ 0 ∷ 1 ∷ 0 ∷ 0 ∷ 1 ∷ 0 ∷ 0 ∷ 1 ∷ 1 ∷ 1 ∷ 1 ∷ 0 ∷ []) faults starts lengths presses

abbrev p1tables : List ℕ → List ℕ → List ℕ → Drawing
p1tables faults lengths presses = p1starts faults [] lengths presses

abbrev p9tables : List ℕ → List ℕ → Drawing
p9tables lengths presses =
    drawing (size 4 2 2) false
    (0 ∷ 0 ∷ 0 ∷ 0 ∷ 0 ∷ 1 ∷ 0 ∷ 1 ∷ 1 ∷ 0 ∷ 0 ∷ 2 ∷ 2 ∷ 0 ∷ 0 ∷ 2 ∷ 2 ∷ 1 ∷ 0 ∷ 3 ∷ 3 ∷ 0 ∷ 1 ∷ 0 ∷ 3 ∷ 1 ∷ 0 ∷ 1 ∷ [])
    (2 ∷ 0 ∷ 1 ∷ 2 ∷ 2 ∷ 1 ∷ 0 ∷ 2 ∷ 3 ∷ 0 ∷ 1 ∷ 1 ∷ [])
    [] lengths presses

-- one state without rules or faults, with tests
abbrev p6tables : List ℕ → List ℕ → Drawing
p6tables lengths presses = drawing (size 1 1 1) false [] [] [] lengths presses

-- three states, eleven inputs, two rules with a fault each
abbrev p33tables : Bool → Drawing
p33tables quiet =
    drawing (size 3 11 1) quiet (0 ∷ 0 ∷ 0 ∷ 1 ∷ 1 ∷ 0 ∷ 0 ∷ 2 ∷ []) (0 ∷ 0 ∷ 0 ∷ 0 ∷ 1 ∷ 0 ∷ 0 ∷ 0 ∷ []) [] [] []

unfoldable pub written : List Row
written =
    row (p1tables (1 ∷ 1 ∷ 1 ∷ 1 ∷ []) (2 ∷ []) (0 ∷ 1 ∷ [])) 35 (accepted p1)
    ∷ row (p9tables (6 ∷ []) (1 ∷ 0 ∷ 1 ∷ 0 ∷ 1 ∷ 0 ∷ [])) 68 (accepted p9)
    ∷ row (p9tables (6 ∷ 3 ∷ 7 ∷ []) (1 ∷ 0 ∷ 1 ∷ 0 ∷ 1 ∷ 0 ∷ 1 ∷ 0 ∷ 0 ∷ 1 ∷ 0 ∷ 1 ∷ 0 ∷ 0 ∷ 1 ∷ 0 ∷ [])) 100 (accepted p10)
    -- STARTs after the faults
    ∷ row (p1starts (1 ∷ 1 ∷ 1 ∷ 1 ∷ []) (1 ∷ []) (2 ∷ []) (0 ∷ 1 ∷ [])) 37 (accepted p1start)
    ∷ row (drawing (size 2 16 1) false (0 ∷ 0 ∷ 0 ∷ 1 ∷ []) [] (1 ∷ []) [] []) 12 (accepted start31)
    -- QUIET after SIZE: with it 31 of 33 pairs have one choice
    ∷ row (drawing (size 1 2 1) true (0 ∷ 0 ∷ 0 ∷ 0 ∷ []) [] [] [] []) 11 (accepted (0x01 ∷ 1 ∷ 2 ∷ 1 ∷ 0x08 ∷ 0x02 ∷ 0 ∷ 0 ∷ 0 ∷ 0 ∷ 0x06 ∷ []))
    ∷ row (p33tables true) 26 (accepted (0x01 ∷ 3 ∷ 11 ∷ 1 ∷ 0x08 ∷ 0x02 ∷ 0 ∷ 0 ∷ 0 ∷ 1 ∷ 0x02 ∷ 1 ∷ 0 ∷ 0 ∷ 2 ∷ 0x03 ∷ 0 ∷ 0 ∷ 0 ∷ 0 ∷ 0x03 ∷ 1 ∷ 0 ∷ 0 ∷ 0 ∷ 0x06 ∷ []))
    ∷ row (p33tables true) 25 (refused 16 0)
    -- 2: a cut rule, a cut fault, lengths of one press less and one more; before 1 and 4
    ∷ row (drawing (size 1 1 1) false (0 ∷ 0 ∷ 0 ∷ []) [] [] [] []) 0 (refused 2 0)
    ∷ row (p1tables (1 ∷ 1 ∷ 1 ∷ 1 ∷ 1 ∷ []) (2 ∷ []) (0 ∷ 1 ∷ [])) 0 (refused 2 0)
    ∷ row (p1tables (1 ∷ 1 ∷ 1 ∷ 1 ∷ []) (1 ∷ []) (0 ∷ 1 ∷ [])) 0 (refused 2 0)
    ∷ row (p1tables (1 ∷ 1 ∷ 1 ∷ 1 ∷ []) (1 ∷ 2 ∷ []) (0 ∷ 1 ∷ [])) 0 (refused 2 0)
    ∷ row (drawing (size 0 1 1) false [] [] [] (replicate 16380 0) (0 ∷ [])) 0 (refused 2 0)
    -- 1: 16,385 bytes, before 4 and 8; of 16,384 the 257th test
    ∷ row (drawing (size 0 1 1) false [] [] [] (replicate 16380 0) []) 0 (refused 1 0)
    ∷ row (p6tables (replicate 16379 0) []) 0 (refused 8 0)
    -- 4, before 5; 5, each table; 6; 7
    ∷ row (drawing (size 17 1 1) false (9 ∷ 9 ∷ 9 ∷ 9 ∷ []) [] [] [] []) 0 (refused 4 0)
    ∷ row (drawing (size 1 1 1) false (0 ∷ 0 ∷ 0 ∷ 1 ∷ []) [] [] [] []) 0 (refused 5 0)
    ∷ row (p1tables (1 ∷ 1 ∷ 2 ∷ 1 ∷ []) [] []) 0 (refused 5 0)
    ∷ row (p1tables [] (1 ∷ []) (2 ∷ [])) 0 (refused 5 0)
    ∷ row (drawing (size 1 1 1) false (0 ∷ 0 ∷ 0 ∷ 0 ∷ 0 ∷ 0 ∷ 0 ∷ 0 ∷ []) [] [] [] []) 0 (refused 6 0)
    ∷ row (p1tables (1 ∷ 1 ∷ 1 ∷ 1 ∷ 1 ∷ 1 ∷ 1 ∷ 1 ∷ []) [] []) 0 (refused 6 0)
    ∷ row (p1tables (1 ∷ 1 ∷ 1 ∷ 0 ∷ []) [] []) 0 (refused 7 0)
    -- of the STARTs: 5 before 6, 6 before 7, 7
    ∷ row (p1starts [] (1 ∷ 2 ∷ []) [] []) 0 (refused 5 0)
    ∷ row (p1starts [] (1 ∷ 0 ∷ []) [] []) 0 (refused 6 0)
    ∷ row (p1starts [] (0 ∷ []) [] []) 0 (refused 7 0)
    -- 8: 257 tests; 256 are accepted; 257 presses
    ∷ row (p6tables (replicate 257 0) []) 0 (refused 8 0)
    ∷ row (p6tables (replicate 256 0) []) 261 (accepted (0x01 ∷ 1 ∷ 1 ∷ 1 ∷ replicate 256 0x04 ++ 0x06 ∷ []))
    ∷ row (p1tables [] (257 ∷ []) (replicate 257 0)) 0 (refused 8 0)
    -- 9; 11; 12
    ∷ row (p6tables (1 ∷ []) (0 ∷ [])) 0 (refused 9 0)
    ∷ row (drawing (size 2 1 1) false [] [] [] [] []) 0 (refused 11 0)
    ∷ row (p33tables false) 0 (refused 12 0)
    -- 12: 32 open pairs and a START
    ∷ row (drawing (size 2 16 1) false (0 ∷ 0 ∷ 0 ∷ 1 ∷ []) (0 ∷ 0 ∷ 0 ∷ 0 ∷ []) (1 ∷ []) [] []) 0 (refused 12 0)
    -- 16: one byte short
    ∷ row (p1tables (1 ∷ 1 ∷ 1 ∷ 1 ∷ []) (2 ∷ []) (0 ∷ 1 ∷ [])) 34 (refused 16 0)
    ∷ row (p1starts (1 ∷ 1 ∷ 1 ∷ 1 ∷ []) (1 ∷ []) (2 ∷ []) (0 ∷ 1 ∷ [])) 36 (refused 16 0)
    ∷ []

pub written-so : map (λ (r : Row). writing r.tables r.room) written ≡ map (λ (r : Row). r.result) written
unfolding written p1machine p1 p9machine bababa p9 p10 p1start start31 last precedes count any all rows_at rule_at after leads reached_within all_reached unruled_choices choices_at is_open open_below open_pairs wakings waking_choices waking_slots open_slots first_broken ascends rises last_test rule_after refusal add_press advance finishing doing one_command from blank reading row_bytes operand_bytes test_bytes size_bytes quiet_bytes machine_bytes body encode rows_of tests_of total is_cut sheet_of writing
written-so = refl
