-- An accepted sheet's bytes are its encoding.
use Rattle.std.specs.Prelude.{◌≡◌, refl, true, false, cond, List, [], ◌∷◌, ◌++◌, ℕ, zero, suc, ◌+◌, ◌<◌, ◌≤◌, length, get_or, take, drop, eqb}
use Rattle.std.proofs.Common.{ap, ◌∙◌, append_assoc, append-nil, add-suc, take-add, take_all, drop-cons, ne_eqb}
use Rattle.std.proofs.Math.Path.{sym}
use Rattle.std.proofs.Math.Nat.{add-zero}
use native.Mathlib.Omega.{arith}
use Rattle.sheet.specs.declared.Row.{Row}
use Rattle.sheet.specs.declared.Size.{Size}
use Rattle.sheet.specs.Sheet.{Sheet}
use Rattle.sheet.specs.Reading.{accepted, size, quiet, rule, fault, start, test, press, Progress, row_at, size_at, add_press, advance, blank, reading}
use Rattle.sheet.specs.Encode.{size_bytes, quiet_bytes, row_bytes, operand_bytes, press_bytes, test_bytes, machine_bytes, body, encode}
use Rattle.sheet.specs.laws.ReadingLaw.{Moves, by_size, by-quiet, by-rule, by-fault, by-start, by-test, by-press, Ends, accepting}
use Rattle.sheet.specs.laws.PhaseLaw.{Ordered, ordered-blank, ordered-on}

-- n bytes from at + i
unfoldable window : List ℕ → ℕ → ℕ → ℕ → List ℕ
window s at i zero = []
window s at i (suc n) = get_or s (at + i) 0 ∷ window s at (suc i) n

window-is : (s : List ℕ) (at i n : ℕ) → at + i + n ≤ length s → take n (drop (at + i) s) ≡ window s at i n
unfolding window
window-is s at i zero h = refl
window-is s at i (suc n) h =
    rw (drop-cons s (at + i) 0 (omega arith)) (ap (λ (l : List ℕ). get_or s (at + i) 0 ∷ l) (rw (← add-suc at i) (window-is s at (suc i) n (omega arith))))

taken : (s : List ℕ) (at n : ℕ) → at + n ≤ length s → take (at + n) s ≡ take at s ++ window s at 0 n
taken s at n h = take-add at n s ∙ ap (λ (l : List ℕ). take at s ++ l) (rw (add-zero at) at (window-is s at 0 n (omega arith)))

-- one row, operand, TEST or PRESS more is its bytes more
pub rows_snoc : (b : ℕ) (l : List Row) (r : Row) → row_bytes b (l ++ r ∷ []) ≡ row_bytes b l ++ b ∷ r.source ∷ r.input ∷ r.output ∷ r.target ∷ []
unfolding row_bytes
rows_snoc b [] r = refl
rows_snoc b (q ∷ l) r = rw (rows_snoc b l r)

pub operands-snoc : (b : ℕ) (xs : List ℕ) (x : ℕ) → operand_bytes b (xs ++ x ∷ []) ≡ operand_bytes b xs ++ b ∷ x ∷ []
unfolding operand_bytes
operands-snoc b [] x = refl
operands-snoc b (y ∷ xs) x = rw (operands-snoc b xs x)

pub tests-snoc : (l : List (List ℕ)) → test_bytes (l ++ [] ∷ []) ≡ test_bytes l ++ 4 ∷ []
unfolding test_bytes operand_bytes
tests-snoc [] = refl
tests-snoc (xs ∷ l) = rw (tests-snoc l) (ap (λ (t : List ℕ). 4 ∷ t) (sym (append_assoc (press_bytes xs) (test_bytes l) (4 ∷ []))))

pub tests-press : (l : List (List ℕ)) (x : ℕ) → 0 < length l → test_bytes (add_press l x) ≡ test_bytes l ++ 5 ∷ x ∷ []
unfolding test_bytes add_press
tests-press [] x h = absurd (omega arith)
tests-press (xs ∷ []) x h = rw (operands-snoc 5 xs x, append-nil (press_bytes xs ++ 5 ∷ x ∷ []), append-nil (press_bytes xs))
tests-press (xs ∷ ys ∷ l) x h =
    rw (tests-press (ys ∷ l) x (omega arith)) (ap (λ (t : List ℕ). 4 ∷ t) (sym (append_assoc (press_bytes xs) (test_bytes (ys ∷ l)) (5 ∷ x ∷ []))))

no-quiet : quiet_bytes false ≡ []
unfolding quiet_bytes
no-quiet = refl

is-quiet : quiet_bytes true ≡ 8 ∷ []
unfolding quiet_bytes
is-quiet = refl

no_rows : (b : ℕ) → row_bytes b [] ≡ []
unfolding row_bytes
no_rows b = refl

no-starts : operand_bytes 7 [] ≡ []
unfolding operand_bytes
no-starts = refl

no-tests : test_bytes [] ≡ []
unfolding test_bytes
no-tests = refl

module _ (sh : Sheet) where
  body-size : (z : Size) → sh.quiet ≡ false → sh.rules ≡ [] → sh.faults ≡ [] → sh.starts ≡ [] → sh.tests ≡ [] → body (advance sh (size z)) ≡ size_bytes z
  unfolding body advance machine_bytes
  body-size z eq er ef es et = rw (eq, er, ef, es, et, no-quiet, no_rows 2, no_rows 3, no-starts, no-tests) (simp append-nil)

  body-quiet : sh.quiet ≡ false → sh.rules ≡ [] → sh.faults ≡ [] → sh.starts ≡ [] → sh.tests ≡ [] → body (advance sh quiet) ≡ body sh ++ 8 ∷ []
  unfolding body advance machine_bytes
  body-quiet eq er ef es et = rw (eq, er, ef, es, et, no-quiet, is-quiet, no_rows 2, no_rows 3, no-starts, no-tests) (simp (append-nil, append_assoc))

  body-rule : (r : Row) → sh.faults ≡ [] → sh.starts ≡ [] → sh.tests ≡ [] → body (advance sh (rule r)) ≡ body sh ++ 2 ∷ r.source ∷ r.input ∷ r.output ∷ r.target ∷ []
  unfolding body advance machine_bytes
  body-rule r ef es et = rw (rows_snoc 2 sh.rules r, ef, es, et, no_rows 3, no-starts, no-tests) (simp (append-nil, append_assoc))

  body-fault : (r : Row) → sh.starts ≡ [] → sh.tests ≡ [] → body (advance sh (fault r)) ≡ body sh ++ 3 ∷ r.source ∷ r.input ∷ r.output ∷ r.target ∷ []
  unfolding body advance machine_bytes
  body-fault r es et = rw (rows_snoc 3 sh.faults r, es, et, no-starts, no-tests) (simp (append-nil, append_assoc))

  body-start : (t : ℕ) → sh.tests ≡ [] → body (advance sh (start t)) ≡ body sh ++ 7 ∷ t ∷ []
  unfolding body advance machine_bytes
  body-start t et = rw (operands-snoc 7 sh.starts t, et, no-tests) (simp (append-nil, append_assoc))

  body-test : body (advance sh test) ≡ body sh ++ 4 ∷ []
  unfolding body advance machine_bytes
  body-test = rw (tests-snoc sh.tests) (simp append_assoc)

  body-press : (x : ℕ) → 0 < length sh.tests → body (advance sh (press x)) ≡ body sh ++ 5 ∷ x ∷ []
  unfolding body advance machine_bytes
  body-press x h = rw (tests-press sh.tests x h) (simp append_assoc)

-- the bytes of what is read so far
unfoldable written : Progress → List ℕ
written p = cond (eqb p.phase 0) [] (body p.sheet)

record Wrote (s : List ℕ) (p : Progress) (at : ℕ) : Type 0 where
  pub bytes : take at s ≡ written p
  pub ordered : Ordered p

module _ {s : List ℕ} {p : Progress} {at : ℕ} (h : Wrote s p at) where
  begun : 1 ≤ p.phase → take at s ≡ body p.sheet
  unfolding written
  begun k = h.bytes ∙ (rw (ne_eqb p.phase 0 (λ q. omega arith)))

  wrote_on : {q : Progress} {e : ℕ} → Moves p s at q e → take e s ≡ written q
  unfolding written window size_bytes
  wrote_on (by_size m) =
      let o = h.ordered in
      let unsized : p.phase ≡ 0 = omega arith in
      taken s at 4 m.room ∙ (rw (h.bytes, unsized, add-zero at, m.byte) (sym (body-size p.sheet (size_at s at) (o.quiet (omega arith)) (o.rules (omega arith)) (o.faults (omega arith)) (o.starts (omega arith)) (o.tests (omega arith)))))
  wrote_on (by-quiet m) =
      let o = h.ordered in
      taken s at 1 m.room ∙ (rw (begun m.early, add-zero at, m.byte)
      (sym (body-quiet p.sheet (o.quiet m.late) (o.rules (omega arith)) (o.faults (omega arith)) (o.starts (omega arith)) (o.tests (omega arith)))))
  wrote_on (by-rule m) =
      taken s at 5 m.room ∙ (rw (begun m.early, add-zero at, m.byte) (sym (body-rule p.sheet (row_at s at) (h.ordered.faults m.late) (h.ordered.starts (omega arith)) (h.ordered.tests (omega arith)))))
  wrote_on (by-fault m) =
      taken s at 5 m.room ∙ (rw (begun m.early, add-zero at, m.byte) (sym (body-fault p.sheet (row_at s at) (h.ordered.starts m.late) (h.ordered.tests (omega arith)))))
  wrote_on (by-start m) =
      taken s at 2 m.room ∙ (rw (begun m.early, add-zero at, m.byte) (sym (body-start p.sheet (get_or s (at + 1) 0) (h.ordered.tests m.late))))
  wrote_on (by-test m) = taken s at 1 m.room ∙ (rw (begun m.early, add-zero at, m.byte) (sym (body-test p.sheet)))
  wrote_on (by-press m) =
      taken s at 2 m.room ∙ (rw (begun (omega arith), add-zero at, m.byte) (sym (body-press p.sheet (get_or s (at + 1) 0) (h.ordered.begun m.early))))

  wrote-end : Ends p s at → length s ≤ at + 1 → encode p.sheet ≡ s
  unfolding encode window
  wrote-end m k = sym (sym (take_all (at + 1) s k) ∙ (taken s at 1 m.room ∙ (rw (begun m.early, add-zero at, m.byte))))

wrote-blank : (s : List ℕ) → Wrote s blank 0
unfolding written blank
wrote-blank s = record { bytes = refl; ordered = ordered-blank }

-- the bytes that a sheet is read from are its encoding: they determine it, and it determines them
pub encoded : (s : List ℕ) (sh : Sheet) → reading s ≡ accepted sh → encode sh ≡ s
encoded s sh e =
    let a = accepting (Wrote s) s (λ p q at next h m. record { bytes = wrote_on h m; ordered = ordered-on h.ordered m }) sh (wrote-blank s) e in
    wrote-end a.holds a.ending a.whole
