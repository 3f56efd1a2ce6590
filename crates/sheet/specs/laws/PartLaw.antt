-- One test's part is the PRESS commands of that test, and nothing else.
use Rattle.std.specs.Prelude.{◌≡◌, refl, List, [], ◌∷◌, ◌++◌, ℕ, suc, ◌*◌, ◌<◌, length, get_or, take, drop}
use Rattle.std.proofs.Common.{ap, sym, ◌∙◌, append_assoc, arith, length-append, take_at, drop_at}
use Rattle.std.proofs.Math.Seq.{append_snoc, split_at}
use Rattle.std.proofs.lemmas.Bool.{lt-leb}
use Rattle.sheet.specs.Sheet.{Sheet}
use Rattle.sheet.specs.Reading.{accepted, reading}
use Rattle.sheet.specs.Encode.{operand_bytes, press_bytes, test_bytes, machine_bytes, body, encode}
use Rattle.sheet.specs.Part.{span_of, parting, part_of}
use Rattle.sheet.specs.laws.EncodedLaw.{encoded}

-- a command with one operand takes two bytes
pub operands-length : (b : ℕ) (xs : List ℕ) → length (operand_bytes b xs) ≡ 2 * length xs
unfolding operand_bytes
operands-length b [] = omega arith
operands-length b (x ∷ xs) = let w = operands-length b xs in omega arith

pub presses-length : (xs : List ℕ) → length (press_bytes xs) ≡ 2 * length xs
presses-length xs = operands-length 5 xs

tests-append : (l m : List (List ℕ)) → test_bytes (l ++ m) ≡ test_bytes l ++ test_bytes m
unfolding test_bytes
tests-append [] m = refl
tests-append (xs ∷ l) m = rw (tests-append l m) (ap (λ (t : List ℕ). 4 ∷ t) (sym (append_assoc (press_bytes xs) (test_bytes l) (test_bytes m))))

module _ (sh : Sheet) (i : ℕ) where
  abbrev pub before : List ℕ
  before = machine_bytes sh ++ test_bytes (take i sh.tests)

  abbrev pub presses : List ℕ
  presses = press_bytes (get_or sh.tests i [])

  abbrev pub after : List ℕ
  after = test_bytes (drop (suc i) sh.tests) ++ 6 ∷ []

-- what stands before test i, its TEST, its PRESS commands, and the rest
pub layout : (sh : Sheet) (i : ℕ) → i < length sh.tests → encode sh ≡ before sh i ++ 4 ∷ (presses sh i ++ after sh i)
unfolding encode body test_bytes
layout sh i h =
    ap (λ (l : List (List ℕ)). (machine_bytes sh ++ test_bytes l) ++ 6 ∷ []) (split_at sh.tests i [] h)
    ∙ rw (tests-append (take i sh.tests) (get_or sh.tests i [] ∷ drop (suc i) sh.tests)) (simp append_assoc)

span-part : (sh : Sheet) (i : ℕ) → i < length sh.tests → take (span_of sh i).length (drop (span_of sh i).start (encode sh)) ≡ presses sh i
unfolding span_of
span-part sh i h =
    let many = length-append (before sh i) (4 ∷ []) in
    rw (layout sh i h, ← append_snoc (before sh i) 4 (presses sh i ++ after sh i), drop_at (before sh i ++ 4 ∷ []) (presses sh i ++ after sh i) (suc (length (before sh i))) (omega arith))
    (take_at (presses sh i) (after sh i) (2 * length (get_or sh.tests i [])) (presses-length (get_or sh.tests i [])))

pub part-presses : (s : List ℕ) (sh : Sheet) (i : ℕ) → reading s ≡ accepted sh → i < length sh.tests → part_of s (parting s i) ≡ presses sh i
unfolding parting
part-presses s sh i e h = rw (e, lt-leb (length sh.tests) i h) (rw (encoded s sh e) at (span-part sh i h))
