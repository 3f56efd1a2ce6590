-- Tables and sheets say the same: each is the other's.
use Rattle.std.specs.Prelude.{ℕ, ◌%◌, ◌≤◌, ◌≡◌, refl, Bool, true, false, List, [], ◌∷◌, map, length, drop}
use Rattle.std.proofs.Common.{arith, sym, ap, ap₂, length-append, take-append-drop, length-drop, length-take-le, eqb-true, eq-eqb}
use Rattle.std.proofs.Math.Seq.{take-append_seam, drop-append_seam}
use Rattle.std.proofs.lemmas.Bool.{not-false}
use Rattle.sheet.specs.declared.Row.{Row}
use Rattle.lists.specs.Lists.{joined}
use Rattle.sheet.specs.Sheet.{Sheet, row_of}
use Rattle.lists.specs.laws.TestLaw.{both}
use Rattle.writing.specs.Drawing.{Drawing, rows_of, tests_of, total, Whole, is_cut, sheet_of, drawing_of}

-- ---- a sheet's tables

rows-again : (l : List Row) → rows_of (joined row_of l) ≡ l
unfolding rows_of joined
rows-again [] = refl
rows-again (r ∷ l) = ap (λ (t : List Row). r ∷ t) (rows-again l)

tests-again : (l : List (List ℕ)) → tests_of (map length l) (joined (λ xs. xs) l) ≡ l
unfolding tests_of joined
tests-again [] = refl
tests-again (xs ∷ l) = rw (take-append_seam xs (joined (λ xs. xs) l), drop-append_seam xs (joined (λ xs. xs) l), tests-again l)

pub sheet-again : (sh : Sheet) → sheet_of (drawing_of sh) ≡ sh
unfolding sheet_of drawing_of
sheet-again sh = rw (rows-again sh.rules, rows-again sh.faults, tests-again sh.tests)

rows-even : (l : List Row) → length (joined row_of l) % 4 ≡ 0
unfolding joined
rows-even [] = refl
rows-even (r ∷ l) = let h = rows-even l in omega arith

tests-total : (l : List (List ℕ)) → total (map length l) ≡ length (joined (λ xs. xs) l)
unfolding total joined
tests-total [] = refl
tests-total (xs ∷ l) = rw (tests-total l) (sym (length-append xs (joined (λ xs. xs) l)))

pub never-cut : (sh : Sheet) → is_cut (drawing_of sh) ≡ false
unfolding is_cut drawing_of
never-cut sh = rw (rows-even sh.rules, rows-even sh.faults, eq-eqb _ _ (tests-total sh.tests))

-- ---- tables that are not cut

pub whole : (d : Drawing) → is_cut d ≡ false → Whole d
unfolding is_cut
whole d e =
    let h = both _ _ (not-false _ e) in
    let k = both _ _ h.1 in
    record { rules = eqb-true _ _ h.0; faults = eqb-true _ _ k.0; tests = eqb-true _ _ k.1 }

pub cut : (d : Drawing) → (Whole d → ⊥) → is_cut d ≡ true
cut d h = one (is_cut d) refl
  where
    one : (b : Bool) → is_cut d ≡ b → b ≡ true
    one true e = refl
    one false e = absurd (h (whole d e))

table-again : (l : List ℕ) → length l % 4 ≡ 0 → joined row_of (rows_of l) ≡ l
unfolding rows_of joined
table-again [] h = refl
table-again (s ∷ []) h = absurd (omega arith)
table-again (s ∷ x ∷ []) h = absurd (omega arith)
table-again (s ∷ x ∷ o ∷ []) h = absurd (omega arith)
table-again (s ∷ x ∷ o ∷ t ∷ l) h = ap (λ (m : List ℕ). s ∷ x ∷ o ∷ t ∷ m) (table-again l (omega arith))

lengths-again : (ns xs : List ℕ) → total ns ≤ length xs → map length (tests_of ns xs) ≡ ns
unfolding total tests_of
lengths-again [] xs h = refl
lengths-again (n ∷ ns) xs h =
    ap₂ (λ (a : ℕ) (b : List ℕ). a ∷ b) (length-take-le n xs (omega arith)) (lengths-again ns (drop n xs) (rw (length-drop n xs) (omega arith)))

presses-again : (ns xs : List ℕ) → total ns ≡ length xs → joined (λ xs. xs) (tests_of ns xs) ≡ xs
unfolding total tests_of joined
presses-again [] [] h = refl
presses-again [] (x ∷ xs) h = absurd (omega arith)
presses-again (n ∷ ns) xs h = rw (presses-again ns (drop n xs) (rw (length-drop n xs) (omega arith))) (take-append-drop n xs)

pub drawing-again : (d : Drawing) → Whole d → drawing_of (sheet_of d) ≡ d
unfolding sheet_of drawing_of
drawing-again d w =
    rw (table-again d.rules w.rules, table-again d.faults w.faults, lengths-again d.lengths d.presses (omega (arith, w.tests)), presses-again d.lengths d.presses w.tests)
