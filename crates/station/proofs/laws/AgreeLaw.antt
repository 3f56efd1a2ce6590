-- Sheets that agree up to a test: by their bytes, and part by part.
use Rattle.std.specs.Prelude.{ℕ, ◌≡◌, refl, Bool, true, false, List, [], ◌∷◌, ◌++◌, eqb, take}
use Rattle.std.proofs.Common.{sym, ◌∙◌, append_assoc, append-nil, eqb-true, eq-eqb}
use Rattle.std.proofs.Math.Path.{ap}
use Rattle.lists.specs.laws.TestLaw.{both, never}
use Rattle.sheet.specs.declared.Row.{Row}
use Rattle.sheet.specs.declared.Size.{Size}
use Rattle.sheet.specs.Sheet.{Sheet}
use Rattle.sheet.specs.Encode.{row_bytes, operand_bytes, test_bytes, machine_bytes, body, encode}
use Rattle.sheet.specs.laws.InjectiveLaw.{encode_injective}
use Rattle.station.specs.Station.{same, head_bytes, agrees, Agree}

pub same_true : (xs ys : List ℕ) → same xs ys ≡ true → xs ≡ ys
unfolding same
same_true [] [] e = refl
same_true [] (y ∷ ys) e = never (cc)
same_true (x ∷ xs) [] e = never (cc)
same_true (x ∷ xs) (y ∷ ys) e =
    let h = both (eqb x y) (same xs ys) e in
    let f = eqb-true x y h.0 in
    let r = same_true xs ys h.1 in
    cc

pub same_self : (xs : List ℕ) → same xs xs ≡ true
unfolding same
same_self [] = refl
same_self (x ∷ xs) = rw (eq-eqb x x refl, same_self xs) refl

-- a sheet of these parts alone
abbrev part : Size → Bool → List Row → List (List ℕ) → Sheet
part z q rules tests = record { size = z; quiet = q; rules = rules; faults = []; starts = []; tests = tests }

abbrev head : Sheet → Sheet
head sh = part sh.size sh.quiet sh.rules []

head-encodes : (sh : Sheet) → encode (head sh) ≡ head_bytes sh ++ 6 ∷ []
unfolding encode body machine_bytes head_bytes row_bytes operand_bytes test_bytes
head-encodes sh = simp (append-nil, append_assoc)

-- equal bytes are those of equal parts
pub head-injective : (a b : Sheet) → head_bytes a ≡ head_bytes b → head a ≡ head b
head-injective a b e = encode_injective (head a) (head b) (head-encodes a ∙ ap (λ (l : List ℕ). l ++ 6 ∷ []) e ∙ sym (head-encodes b))

abbrev none : Size
none = record { states = 0; inputs = 0; outputs = 0 }

tests-encodes : (ts : List (List ℕ)) → encode (part none false [] ts) ≡ machine_bytes (part none false [] []) ++ (test_bytes ts ++ 6 ∷ [])
unfolding encode body machine_bytes
tests-encodes ts = simp append_assoc

pub tests-injective : (ts us : List (List ℕ)) → test_bytes ts ≡ test_bytes us → ts ≡ us
tests-injective ts us e =
    ap (λ (sh : Sheet). sh.tests)
    (encode_injective (part none false [] ts) (part none false [] us)
    (tests-encodes ts ∙ ap (λ (l : List ℕ). machine_bytes (part none false [] []) ++ (l ++ 6 ∷ [])) e ∙ sym (tests-encodes us)))

module _ (a b : Sheet) (n : ℕ) where
  pub agrees-true : agrees a b n ≡ true → Agree a b n
  unfolding agrees
  agrees-true e =
      let h = both (same (head_bytes a) (head_bytes b)) (same (test_bytes (take n a.tests)) (test_bytes (take n b.tests))) e in
      let m = head-injective a b (same_true (head_bytes a) (head_bytes b) h.0) in
      record {
        size = ap (λ (sh : Sheet). sh.size) m;
        quiet = ap (λ (sh : Sheet). sh.quiet) m;
        rules = ap (λ (sh : Sheet). sh.rules) m;
        tests = tests-injective (take n a.tests) (take n b.tests) (same_true _ _ h.1);
      }

  pub true-agrees : Agree a b n → agrees a b n ≡ true
  unfolding agrees head_bytes
  true-agrees h =
      rw (h.size, h.quiet, h.rules, h.tests, same_self (test_bytes (take n b.tests)))
      (rw (same_self (head_bytes b)) refl)

  -- they agree by their bytes exactly if they do part by part
  pub agrees-exactly : (agrees a b n ≡ true → Agree a b n) × (Agree a b n → agrees a b n ≡ true)
  agrees-exactly = (agrees-true, true-agrees)
