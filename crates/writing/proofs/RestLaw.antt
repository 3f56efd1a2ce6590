-- What is left to spell: the next part, then the rest.
use Prim.Native.Nat.{ℕ, zero, suc, ◌+◌, ◌≤◌, ◌<◌}
use native.Mathlib.Numerals.{add-one}
use native.Mathlib.Omega.{arith}
use mathlib.Core.Path.{◌≡◌, refl, sym, ◌∙◌}
use mathlib.Core.Bool.{Bool, true, false, not, ◌&&◌}
use mathlib.Core.List.{List, [], ◌∷◌, ◌++◌}
use lib.Dec.{eqb}
use lib.ListN.{length, get_or, take, drop, drop_of_length-le}
use lib.Seq.{drop-cons}
use borrow.Author.Tests.{eq-eqb, ne_eqb}
use Rattle.sheet.specs.Encode.{row_bytes, operand_bytes, press_bytes, test_bytes}
use Rattle.writing.specs.Drawing.{rows_of, tests_of, total}
use Rattle.writing.proofs.laws.SpelledLaw.{Next}

first : (l : List ℕ) (i : ℕ) → i < length l → drop i l ≡ get_or l i 0 ∷ drop (i + 1) l
first l i h = rw add-one (drop-cons l i 0 h)

pub bytes_next : (l : List ℕ) (i : ℕ) → i < length l → Next (drop i l) (get_or l i 0 ∷ []) (drop (i + 1) l)
bytes_next l i h = record { is = first l i h }

rows-first : (b : ℕ) (row later : List ℕ) → length row ≡ 4 → row_bytes b (rows_of (row ++ later)) ≡ (b ∷ row) ++ row_bytes b (rows_of later)
unfolding row_bytes rows_of
rows-first b [] later h = absurd (omega arith)
rows-first b (s ∷ []) later h = absurd (omega arith)
rows-first b (s ∷ x ∷ []) later h = absurd (omega arith)
rows-first b (s ∷ x ∷ o ∷ []) later h = absurd (omega arith)
rows-first b (s ∷ x ∷ o ∷ t ∷ []) later h = refl
rows-first b (s ∷ x ∷ o ∷ t ∷ z ∷ l) later h = absurd (omega arith)

pub rows_next : (b : ℕ) (l row later : List ℕ) → l ≡ row ++ later → length row ≡ 4 → Next (row_bytes b (rows_of l)) (b ∷ row) (row_bytes b (rows_of later))
rows_next b l row later e h = record { is = rw e (rows-first b row later h) }

pub rows_short : (b : ℕ) (l : List ℕ) → length l < 4 → row_bytes b (rows_of l) ≡ []
unfolding row_bytes rows_of
rows_short b [] h = refl
rows_short b (s ∷ []) h = refl
rows_short b (s ∷ x ∷ []) h = refl
rows_short b (s ∷ x ∷ o ∷ []) h = refl
rows_short b (s ∷ x ∷ o ∷ t ∷ l) h = absurd (omega arith)

module _ (b : ℕ) (l : List ℕ) (i : ℕ) where
  pub operands_next : i < length l → Next (operand_bytes b (drop i l)) (b ∷ get_or l i 0 ∷ []) (operand_bytes b (drop (i + 1) l))
  unfolding operand_bytes
  operands_next h = record { is = rw (first l i h) }

  pub operands-none : length l ≤ i → operand_bytes b (drop i l) ≡ []
  unfolding operand_bytes
  operands-none h = rw (drop_of_length-le l h)

module _ (ns xs : List ℕ) (i : ℕ) where
  pub tests-next : (n : ℕ) → n ≡ get_or ns i 0 → i < length ns → (now later : List ℕ) → now ≡ take n xs → later ≡ drop n xs
      → Next (test_bytes (tests_of (drop i ns) xs)) (4 ∷ press_bytes now) (test_bytes (tests_of (drop (i + 1) ns) later))
  unfolding test_bytes tests_of
  tests-next n e h now later f g = record { is = rw (first ns i h, f, g, e) }

  pub tests-none : length ns ≤ i → test_bytes (tests_of (drop i ns) xs) ≡ []
  unfolding test_bytes tests_of
  tests-none h = rw (drop_of_length-le ns h)

pub total-next : (ns : List ℕ) (i n : ℕ) → n ≡ get_or ns i 0 → i < length ns → total (drop i ns) ≡ n + total (drop (i + 1) ns)
unfolding total
total-next ns i n e h = rw (first ns i h, e) refl

pub total-none : (ns : List ℕ) (i : ℕ) → length ns ≤ i → total (drop i ns) ≡ 0
unfolding total
total-none ns i h = rw (drop_of_length-le ns h)

-- the sum is the whole exactly if nothing is left
pub nothing_left : (sum left whole : ℕ) → sum + left ≡ whole → eqb left 0 ≡ eqb sum whole
nothing_left sum zero whole e = sym (eq-eqb sum whole (omega (arith, e)))
nothing_left sum (suc n) whole e = ne_eqb (suc n) 0 (λ h. omega arith) ∙ sym (ne_eqb sum whole (λ h. omega (arith, e)))

-- a row is cut, or the lengths do not add up
pub odd-cut : (b r : Bool) → not b ≡ true → true ≡ not (b && r)
odd-cut true r e = cc
odd-cut false r e = refl

pub even-cut : (b r : Bool) → not b ≡ false → not r ≡ not (b && r)
even-cut true r e = refl
even-cut false r e = cc
