-- Sheets from seeds, as a program of few lines in another language gives them; the two refusals; and the most faults.
use Rattle.std.specs.Prelude.{ℕ, ◌≡◌, refl, List, [], ◌∷◌, map, length, drop}
use Rattle.sheet.specs.declared.Size.{Size}
use Rattle.sheet.specs.Reading.{Result, accepted, refused}
use Rattle.sheet.specs.Encode.{row_bytes, operand_bytes, test_bytes, size_bytes, quiet_bytes, machine_bytes, body, encode}
use Rattle.generator.specs.Generating.{third, drawn, rule_from, is_faulty, Draft, with_pair, drafted, sheet_from, generating}

-- a seed, a size, the buffer's length, and the answer
pub record Row : Type 0 where
  pub seed : ℕ
  pub size : Size
  pub room : ℕ
  pub result : Result (List ℕ)

abbrev row : ℕ → Size → ℕ → Result (List ℕ) → Row
row seed size room result = record { seed = seed; size = size; room = room; result = result }

abbrev size : ℕ → ℕ → ℕ → Size
size n k m = record { states = n; inputs = k; outputs = m }

unfoldable pub generated : List Row
generated =
    row 0 (size 2 2 2) 16384
    (accepted (0x01 ∷ 2 ∷ 2 ∷ 2 ∷ 0x02 ∷ 0 ∷ 0 ∷ 0 ∷ 1 ∷ 0x02 ∷ 0 ∷ 1 ∷ 1 ∷ 0 ∷ 0x02 ∷ 1 ∷ 0 ∷ 1 ∷ 0 ∷ 0x02 ∷ 1 ∷ 1 ∷ 0 ∷ 1 ∷ 0x06 ∷ []))
    -- seed 2: the third draw of pair (1, 0) is 0
    ∷ row 2 (size 2 2 2) 16384
    (accepted (0x01 ∷ 2 ∷ 2 ∷ 2 ∷ 0x02 ∷ 0 ∷ 0 ∷ 0 ∷ 1 ∷ 0x02 ∷ 0 ∷ 1 ∷ 1 ∷ 0 ∷ 0x02 ∷ 1 ∷ 0 ∷ 1 ∷ 0 ∷ 0x02 ∷ 1 ∷ 1 ∷ 0 ∷ 1 ∷ 0x03 ∷ 1 ∷ 0 ∷ 0 ∷ 0 ∷ 0x06 ∷ []))
    ∷ row 1 (size 3 2 3) 16384
    (accepted (0x01 ∷ 3 ∷ 2 ∷ 3 ∷ 0x02 ∷ 0 ∷ 0 ∷ 0 ∷ 1 ∷ 0x02 ∷ 0 ∷ 1 ∷ 0 ∷ 2 ∷ 0x02 ∷ 1 ∷ 0 ∷ 1 ∷ 2 ∷ 0x02 ∷ 1 ∷ 1 ∷ 2 ∷ 2 ∷ 0x02 ∷ 2 ∷ 0 ∷ 0 ∷ 0 ∷ 0x02 ∷ 2 ∷ 1 ∷ 0 ∷ 0 ∷ 0x03 ∷ 2 ∷ 0 ∷ 1 ∷ 0 ∷ 0x06 ∷ []))
    ∷ row 0x12345678 (size 2 3 4) 16384
    (accepted (0x01 ∷ 2 ∷ 3 ∷ 4 ∷ 0x02 ∷ 0 ∷ 0 ∷ 2 ∷ 1 ∷ 0x02 ∷ 0 ∷ 1 ∷ 2 ∷ 0 ∷ 0x02 ∷ 0 ∷ 2 ∷ 3 ∷ 0 ∷ 0x02 ∷ 1 ∷ 0 ∷ 1 ∷ 0 ∷ 0x02 ∷ 1 ∷ 1 ∷ 0 ∷ 0 ∷ 0x02 ∷ 1 ∷ 2 ∷ 3 ∷ 0 ∷ 0x03 ∷ 1 ∷ 2 ∷ 0 ∷ 0 ∷ 0x06 ∷ []))
    -- the first sum wraps
    ∷ row 4294967295 (size 2 2 16) 16384
    (accepted (0x01 ∷ 2 ∷ 2 ∷ 16 ∷ 0x02 ∷ 0 ∷ 0 ∷ 15 ∷ 1 ∷ 0x02 ∷ 0 ∷ 1 ∷ 14 ∷ 1 ∷ 0x02 ∷ 1 ∷ 0 ∷ 10 ∷ 0 ∷ 0x02 ∷ 1 ∷ 1 ∷ 3 ∷ 0 ∷ 0x06 ∷ []))
    -- one output: no faults, though the same pair draws 0
    ∷ row 2 (size 2 2 1) 16384
    (accepted (0x01 ∷ 2 ∷ 2 ∷ 1 ∷ 0x02 ∷ 0 ∷ 0 ∷ 0 ∷ 1 ∷ 0x02 ∷ 0 ∷ 1 ∷ 0 ∷ 0 ∷ 0x02 ∷ 1 ∷ 0 ∷ 0 ∷ 0 ∷ 0x02 ∷ 1 ∷ 1 ∷ 0 ∷ 1 ∷ 0x06 ∷ []))
    -- one state: input 0 leads back to it
    ∷ row 3 (size 1 4 2) 16384
    (accepted (0x01 ∷ 1 ∷ 4 ∷ 2 ∷ 0x02 ∷ 0 ∷ 0 ∷ 1 ∷ 0 ∷ 0x02 ∷ 0 ∷ 1 ∷ 0 ∷ 0 ∷ 0x02 ∷ 0 ∷ 2 ∷ 0 ∷ 0 ∷ 0x02 ∷ 0 ∷ 3 ∷ 1 ∷ 0 ∷ 0x03 ∷ 0 ∷ 0 ∷ 0 ∷ 0 ∷ 0x06 ∷ []))
    ∷ row 1 (size 1 1 16) 16384
    (accepted (0x01 ∷ 1 ∷ 1 ∷ 16 ∷ 0x02 ∷ 0 ∷ 0 ∷ 13 ∷ 0 ∷ 0x06 ∷ []))
    -- 4: each size by one, on either side; before 16
    ∷ row 0 (size 0 1 1) 16384 (refused 4 0)
    ∷ row 0 (size 1 0 1) 16384 (refused 4 0)
    ∷ row 0 (size 1 1 0) 16384 (refused 4 0)
    ∷ row 0 (size 17 1 1) 16384 (refused 4 0)
    ∷ row 0 (size 1 17 1) 16384 (refused 4 0)
    ∷ row 0 (size 1 1 17) 0 (refused 4 0)
    -- 16: one byte short of any sheet's most
    ∷ row 0 (size 1 1 1) 16383 (refused 16 0)
    ∷ []

pub generated-so : map (λ (r : Row). generating r.seed r.size r.room) generated ≡ map (λ (r : Row). r.result) generated
unfolding generated drawn rule_from is_faulty with_pair drafted sheet_from generating row_bytes operand_bytes test_bytes size_bytes quiet_bytes machine_bytes body encode
generated-so = refl

-- of the 256 pairs, pair 223 gets the 32nd fault; pair 230 draws 0 as well and gets none
abbrev large : ℕ → Draft
large i = drafted (size 16 16 16) 7 i

pub no-33rd : (length (large 223).faults ≡ 31)
    × ((length (large 224).faults ≡ 32)
    × ((drawn 8 (third (large 230).seed) ≡ 0)
    × (length (large 231).faults ≡ 32)))
unfolding drawn rule_from is_faulty with_pair drafted
no-33rd = (refl, (refl, (refl, refl)))

-- the sheet's length and its end: the FAULT of pair 223, END
pub large-so : (length (encode (sheet_from 7 (size 16 16 16))) ≡ 1445) × (drop 1439 (encode (sheet_from 7 (size 16 16 16))) ≡ 0x03 ∷ 13 ∷ 15 ∷ 6 ∷ 6 ∷ 0x06 ∷ [])
unfolding drawn rule_from is_faulty with_pair drafted sheet_from row_bytes operand_bytes test_bytes size_bytes quiet_bytes machine_bytes body encode
large-so = (refl, refl)
