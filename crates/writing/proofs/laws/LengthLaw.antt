-- How long a sheet of tables is.
use Rattle.std.specs.Prelude.{ℕ, ◌+◌, ◌*◌, ◌/◌, ◌≡◌, refl, List, [], ◌∷◌, length, take, drop}
use Rattle.std.proofs.Common.{arith, ◌∙◌, ap, length-append, length-drop, length-take-le}
use Rattle.sheet.specs.Sheet.{Sheet}
use Rattle.sheet.specs.Encode.{size_bytes, quiet_bytes, row_bytes, start_bytes, press_bytes, test_bytes, encode}
use Rattle.sheet.specs.laws.InjectiveLaw.{encode-parts}
use Rattle.sheet.specs.laws.PartLaw.{operands-length, presses-length}
use Rattle.writing.specs.Drawing.{Drawing, rows_of, tests_of, total, Whole, sheet_of}
use Rattle.writing.specs.words.Spelled.{length_of}

pub parts-length : (sh : Sheet)
    → length (encode sh) ≡ 5 + length (quiet_bytes sh.quiet) + length (row_bytes 2 sh.rules) + length (row_bytes 3 sh.faults) + length (start_bytes sh.starts) + length (test_bytes sh.tests)
unfolding size_bytes
parts-length sh = ap length (encode-parts sh) ∙ simp length-append (omega arith)

rows-length : (b : ℕ) (l : List ℕ) → length (row_bytes b (rows_of l)) ≡ 5 * (length l / 4)
unfolding row_bytes rows_of
rows-length b [] = refl
rows-length b (s ∷ []) = omega arith
rows-length b (s ∷ x ∷ []) = omega arith
rows-length b (s ∷ x ∷ o ∷ []) = omega arith
rows-length b (s ∷ x ∷ o ∷ t ∷ l) = let h = rows-length b l in omega arith

tests-length : (ns xs : List ℕ) → total ns ≡ length xs → length (test_bytes (tests_of ns xs)) ≡ length ns + 2 * length xs
unfolding test_bytes tests_of total
tests-length [] xs h = omega arith
tests-length (n ∷ ns) xs h =
    let k = length-drop n xs in
    let e = length-append (press_bytes (take n xs)) (test_bytes (tests_of ns (drop n xs))) in
    omega (arith, presses-length (take n xs), length-take-le n xs (omega arith), tests-length ns (drop n xs) (omega arith))

-- five bytes a row, two for each START, one for each test, two for each of its inputs, one for QUIET, SIZE and END
pub sheet-length : (d : Drawing) → Whole d
    → length (encode (sheet_of d)) ≡ length_of d.quiet (length d.rules) (length d.faults) (length d.starts) (length d.lengths) (length d.presses)
unfolding sheet_of
sheet-length d w =
    omega (arith, parts-length (sheet_of d), rows-length 2 d.rules, rows-length 3 d.faults, operands-length 7 d.starts, tests-length d.lengths d.presses w.tests)
