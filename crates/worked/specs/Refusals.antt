-- What Read refuses: sheets for the numbers 2 to 11 and for the order in which they are tried, each with its number and place
-- (`Rows` has 01's own sheets, with 1 and 12).
use Rattle.std.specs.Prelude.{ℕ, suc, ◌/◌, ◌%◌, ◌≡◌, refl, List, [], ◌∷◌, ◌++◌, map, replicate}
use Rattle.lists.specs.Lists.{last, precedes, count, any, all, up_to, joined}
use Rattle.sheet.specs.Sheet.{rows_at, rule_at, after, leads, reached_within, all_reached, unruled_choices, choices_at, is_open, open_below, open_pairs, wakings, waking_choices, waking_slots, open_slots}
use Rattle.sheet.specs.Reading.{refused, first_broken, ascends, rises, last_test, rule_after, refusal, add_press, advance, finishing, doing, one_command, from, blank, reading}
use Rattle.sheet.specs.Encode.{operand_bytes, press_bytes}

-- a sheet, and the number and place that it is refused with
pub record Refusal : Type 0 where
  pub sheet : List ℕ
  pub number : ℕ
  pub place : ℕ

abbrev row : List ℕ → ℕ → ℕ → Refusal
row sheet number place = record { sheet = sheet; number = number; place = place }

-- one state, one RULE, and a test of 256 PRESSes and one more
unfoldable pub presses : ℕ → List ℕ
presses x = (0x01 ∷ 1 ∷ 2 ∷ 1 ∷ 0x02 ∷ 0 ∷ 0 ∷ 0 ∷ 0 ∷ 0x04 ∷ []) ++ (press_bytes (replicate 256 0) ++ 0x05 ∷ x ∷ 0x06 ∷ [])

-- 255 FAULTs at the pair (0, 0), one at (0, 1), and one more there; the RULE at (0, 1) leads to t
unfoldable pub faults : ℕ → ℕ → List ℕ
faults t u =
    (0x01 ∷ 16 ∷ 2 ∷ 16 ∷ 0x02 ∷ 0 ∷ 0 ∷ 0 ∷ 0 ∷ 0x02 ∷ 0 ∷ 1 ∷ 0 ∷ t ∷ [])
    ++ (joined (λ i. 0x03 ∷ 0 ∷ 0 ∷ suc i / 16 ∷ suc i % 16 ∷ []) (up_to 255) ++ 0x03 ∷ 0 ∷ 1 ∷ 0 ∷ 1 ∷ 0x03 ∷ 0 ∷ 1 ∷ 0 ∷ u ∷ [])

unfoldable pub refusals : List Refusal
refusals =
    -- 2: no command byte is there, told at the sheet's length; operands are missing, told at the command
    row (0x01 ∷ 1 ∷ 1 ∷ 1 ∷ []) 2 4
    ∷ row (0x01 ∷ 1 ∷ 1 ∷ 1 ∷ 0x02 ∷ 0 ∷ []) 2 4
    ∷ row (0x01 ∷ 1 ∷ 1 ∷ 1 ∷ 0x07 ∷ []) 2 4
    -- 3: an unknown byte; no SIZE, a second one, PRESS before TEST, RULE after FAULT, FAULT after TEST; before missing operands; START
    -- before SIZE and after TEST, RULE and FAULT after START; QUIET before SIZE, again, after RULE and after START
    ∷ row (0x01 ∷ 1 ∷ 1 ∷ 1 ∷ 0x09 ∷ []) 3 4
    ∷ row (0x02 ∷ 0 ∷ 0 ∷ 0 ∷ 0 ∷ []) 3 0
    ∷ row (0x01 ∷ 1 ∷ 1 ∷ 1 ∷ 0x01 ∷ []) 3 4
    ∷ row (0x01 ∷ 1 ∷ 1 ∷ 1 ∷ 0x05 ∷ 0 ∷ 0x06 ∷ []) 3 4
    ∷ row (0x01 ∷ 1 ∷ 1 ∷ 2 ∷ 0x02 ∷ 0 ∷ 0 ∷ 0 ∷ 0 ∷ 0x03 ∷ 0 ∷ 0 ∷ 1 ∷ 0 ∷ 0x02 ∷ 0 ∷ 0 ∷ 0 ∷ 0 ∷ []) 3 14
    ∷ row (0x01 ∷ 1 ∷ 1 ∷ 1 ∷ 0x02 ∷ 0 ∷ 0 ∷ 0 ∷ 0 ∷ 0x04 ∷ 0x03 ∷ 0 ∷ 0 ∷ 1 ∷ 0 ∷ []) 3 10
    ∷ row (0x07 ∷ 1 ∷ []) 3 0
    ∷ row (0x01 ∷ 2 ∷ 1 ∷ 1 ∷ 0x04 ∷ 0x07 ∷ 1 ∷ []) 3 5
    ∷ row (0x01 ∷ 2 ∷ 1 ∷ 1 ∷ 0x07 ∷ 1 ∷ 0x02 ∷ 0 ∷ 0 ∷ 0 ∷ 1 ∷ []) 3 6
    ∷ row (0x01 ∷ 2 ∷ 1 ∷ 1 ∷ 0x02 ∷ 0 ∷ 0 ∷ 0 ∷ 1 ∷ 0x07 ∷ 1 ∷ 0x03 ∷ 0 ∷ 0 ∷ 0 ∷ 0 ∷ []) 3 11
    ∷ row (0x08 ∷ []) 3 0
    ∷ row (0x01 ∷ 1 ∷ 1 ∷ 1 ∷ 0x08 ∷ 0x08 ∷ []) 3 5
    ∷ row (0x01 ∷ 1 ∷ 1 ∷ 1 ∷ 0x02 ∷ 0 ∷ 0 ∷ 0 ∷ 0 ∷ 0x08 ∷ []) 3 9
    ∷ row (0x01 ∷ 2 ∷ 1 ∷ 1 ∷ 0x07 ∷ 1 ∷ 0x08 ∷ []) 3 6
    -- 4: a size of 0 or 17
    ∷ row (0x01 ∷ 1 ∷ 0 ∷ 1 ∷ 0x06 ∷ []) 4 0
    ∷ row (0x01 ∷ 1 ∷ 1 ∷ 17 ∷ 0x06 ∷ []) 4 0
    -- 5: each operand of a row, of a PRESS and of a START; before 6, 7 and 9
    ∷ row (0x01 ∷ 1 ∷ 1 ∷ 1 ∷ 0x02 ∷ 1 ∷ 0 ∷ 0 ∷ 0 ∷ []) 5 4
    ∷ row (0x01 ∷ 1 ∷ 1 ∷ 1 ∷ 0x02 ∷ 0 ∷ 1 ∷ 0 ∷ 0 ∷ []) 5 4
    ∷ row (0x01 ∷ 1 ∷ 1 ∷ 1 ∷ 0x02 ∷ 0 ∷ 0 ∷ 1 ∷ 0 ∷ []) 5 4
    ∷ row (0x01 ∷ 1 ∷ 1 ∷ 1 ∷ 0x02 ∷ 0 ∷ 0 ∷ 0 ∷ 1 ∷ []) 5 4
    ∷ row (0x01 ∷ 1 ∷ 1 ∷ 1 ∷ 0x02 ∷ 0 ∷ 0 ∷ 0 ∷ 0 ∷ 0x02 ∷ 0 ∷ 0 ∷ 0 ∷ 1 ∷ []) 5 9
    ∷ row (0x01 ∷ 1 ∷ 1 ∷ 1 ∷ 0x03 ∷ 0 ∷ 0 ∷ 1 ∷ 0 ∷ []) 5 4
    ∷ row (0x01 ∷ 1 ∷ 1 ∷ 1 ∷ 0x04 ∷ 0x05 ∷ 1 ∷ []) 5 5
    ∷ row (0x01 ∷ 2 ∷ 1 ∷ 1 ∷ 0x07 ∷ 2 ∷ []) 5 4
    ∷ row (0x01 ∷ 2 ∷ 1 ∷ 1 ∷ 0x07 ∷ 1 ∷ 0x07 ∷ 2 ∷ []) 5 6
    -- 6: the same pair again, a smaller press, the same FAULT again, the same START again; before 7
    ∷ row (0x01 ∷ 1 ∷ 1 ∷ 1 ∷ 0x02 ∷ 0 ∷ 0 ∷ 0 ∷ 0 ∷ 0x02 ∷ 0 ∷ 0 ∷ 0 ∷ 0 ∷ []) 6 9
    ∷ row (0x01 ∷ 1 ∷ 2 ∷ 1 ∷ 0x02 ∷ 0 ∷ 1 ∷ 0 ∷ 0 ∷ 0x02 ∷ 0 ∷ 0 ∷ 0 ∷ 0 ∷ []) 6 9
    ∷ row (0x01 ∷ 1 ∷ 1 ∷ 2 ∷ 0x02 ∷ 0 ∷ 0 ∷ 0 ∷ 0 ∷ 0x03 ∷ 0 ∷ 0 ∷ 1 ∷ 0 ∷ 0x03 ∷ 0 ∷ 0 ∷ 1 ∷ 0 ∷ []) 6 14
    ∷ row (0x01 ∷ 1 ∷ 1 ∷ 2 ∷ 0x02 ∷ 0 ∷ 0 ∷ 0 ∷ 0 ∷ 0x03 ∷ 0 ∷ 0 ∷ 1 ∷ 0 ∷ 0x03 ∷ 0 ∷ 0 ∷ 0 ∷ 0 ∷ []) 6 14
    ∷ row (0x01 ∷ 2 ∷ 1 ∷ 1 ∷ 0x07 ∷ 1 ∷ 0x07 ∷ 1 ∷ []) 6 6
    ∷ row (0x01 ∷ 2 ∷ 1 ∷ 1 ∷ 0x07 ∷ 1 ∷ 0x07 ∷ 0 ∷ []) 6 6
    -- 7: a FAULT with no RULE at its pair; one that equals it; START 0
    ∷ row (0x01 ∷ 1 ∷ 1 ∷ 1 ∷ 0x07 ∷ 0 ∷ []) 7 4
    ∷ row (0x01 ∷ 1 ∷ 1 ∷ 2 ∷ 0x03 ∷ 0 ∷ 0 ∷ 1 ∷ 0 ∷ []) 7 4
    ∷ row (0x01 ∷ 1 ∷ 1 ∷ 1 ∷ 0x02 ∷ 0 ∷ 0 ∷ 0 ∷ 0 ∷ 0x03 ∷ 0 ∷ 0 ∷ 0 ∷ 0 ∷ []) 7 9
    -- 8: the 257th PRESS of a test, also where no RULE is there, after 5; the 257th FAULT, after 7 and 6
    ∷ row (presses 0) 8 522
    ∷ row (presses 1) 8 522
    ∷ row (presses 2) 5 522
    ∷ row (faults 0 2) 8 1294
    ∷ row (faults 2 2) 7 1294
    ∷ row (faults 0 1) 6 1294
    -- 9: no RULE at state 0; none at the state that the test has reached
    ∷ row (0x01 ∷ 1 ∷ 1 ∷ 1 ∷ 0x04 ∷ 0x05 ∷ 0 ∷ []) 9 5
    ∷ row (0x01 ∷ 2 ∷ 1 ∷ 1 ∷ 0x02 ∷ 0 ∷ 0 ∷ 0 ∷ 1 ∷ 0x04 ∷ 0x05 ∷ 0 ∷ 0x05 ∷ 0 ∷ []) 9 12
    -- also on a quiet sheet
    ∷ row (0x01 ∷ 1 ∷ 1 ∷ 1 ∷ 0x08 ∷ 0x04 ∷ 0x05 ∷ 0 ∷ []) 9 6
    -- 10: a byte after END, before 11; 11 before 12: three states, eleven presses, no RULE
    ∷ row (0x01 ∷ 1 ∷ 1 ∷ 1 ∷ 0x06 ∷ 0 ∷ []) 10 5
    ∷ row (0x01 ∷ 2 ∷ 1 ∷ 1 ∷ 0x06 ∷ 0x06 ∷ []) 10 5
    ∷ row (0x01 ∷ 3 ∷ 11 ∷ 1 ∷ 0x06 ∷ []) 11 4
    ∷ []

pub refusals-told : map (λ (r : Refusal). reading r.sheet) refusals ≡ map (λ (r : Refusal). refused r.number r.place) refusals
unfolding refusals presses faults last precedes count any all up_to joined rows_at rule_at after leads reached_within all_reached unruled_choices choices_at is_open open_below open_pairs wakings waking_choices waking_slots open_slots first_broken ascends rises last_test rule_after refusal add_press advance finishing doing one_command from blank reading operand_bytes
refusals-told = refl
