-- A pair is open in the merged sheet exactly if it is open in one of the two.
use Rattle.std.specs.Prelude.{◌+◌, ◌/◌, ◌%◌, ◌≤◌, ◌<◌, ◌≡◌, ◌∷◌}
use Rattle.lists.specs.Proving.{arith, ℕ, zero, suc, refl, sym, ◌∙◌, ap, ap₂, subst, Bool, true, false, cond, ⊎_elim, Option, none, some, List, [], length, get_or, ltb, lt-ltb, le-ltb, ltb-true, add-one}
use mathlib.Core.Bool.{◌||◌}
use mathlib.Core.List.{Memᴰ}
use Rattle.lists.specs.Lists.{maybe, All, count}
use Rattle.lists.specs.laws.AllLaw.{all-mem}
use Rattle.lists.specs.laws.TestLaw.{either, or_left, or_right}
use Rattle.sheet.specs.declared.Row.{Row}
use Rattle.sheet.specs.Sheet.{Sheet, row_of, is_at, rows_at, rule_at, unruled_choices, choices_at, is_open, open_below, open_pairs}
use Rattle.sheet.specs.WellFormed.{WellFormed}
use Rattle.sheet.specs.Tables.{by_pair}
use Rattle.sheet.specs.words.Tabled.{place_of}
use Rattle.sheet.specs.laws.RowTableLaw.{at_true}
use Rattle.sheet.specs.laws.TablesLaw.{table_at}
use Rattle.renaming.specs.Ordering.{union}
use Rattle.renaming.specs.Merging.{SameMachine, merged}
use Rattle.renaming.proofs.laws.SortLaw.{union-mem, mem-left, mem-right}
use Rattle.renaming.proofs.laws.RowsLaw.{row-keys, rows-mem, mem-rows}
use Rattle.merging.specs.words.Outlined.{either_open, open_both}

-- what is true together is the same
together : (b c : Bool) → (b ≡ true → c ≡ true) → (c ≡ true → b ≡ true) → b ≡ c
together true c f g = sym (f refl)
together false true f g = g refl
together false false f g = refl

-- ---- rows at a pair
rows-here : (rows : List Row) (s x : ℕ) → All (λ r. is_at r s x ≡ true) (rows_at rows s x)
unfolding rows_at
rows-here [] s x = tt
rows-here (r ∷ rows) s x = go (is_at r s x) refl (rows-here rows s x)
  where
    go : (b : Bool) → is_at r s x ≡ b → All (λ r. is_at r s x ≡ true) (rows_at rows s x) → All (λ r. is_at r s x ≡ true) (cond b (r ∷ rows_at rows s x) (rows_at rows s x))
    go true e h = (e, h)
    go false e h = h

abbrev faulty : List Row → Bool
faulty rows = ltb 1 (suc (length rows))

some-row : (rows : List Row) (r : Row) → Memᴰ r rows → faulty rows ≡ true
some-row [] r m = absurd (mathlib.Core.List.Memᴰ.not-nil m)
some-row (q ∷ rows) r m = lt-ltb 1 (suc (suc (length rows))) (omega arith)

module _ (s x : ℕ) where
  has-row : (rows : List Row) → faulty (rows_at rows s x) ≡ true → (r : Row) × Memᴰ r rows × (is_at r s x ≡ true)
  has-row rows h = go (rows_at rows s x) refl h
    where
      go : (l : List Row) → rows_at rows s x ≡ l → faulty l ≡ true → (r : Row) × Memᴰ r rows × (is_at r s x ≡ true)
      go [] e k = absurd (omega (arith, ltb-true 1 1 k))
      go (r ∷ l) e k =
          let m : Memᴰ r (rows_at rows s x) = subst (Memᴰ r) (sym e) (mathlib.Core.List.Memᴰ.head refl) in
          (r, rows-mem rows s x r m, all-mem (λ q. is_at q s x ≡ true) (rows_at rows s x) r (rows-here rows s x) m)

  row-there : (rows : List Row) (r : Row) → Memᴰ r rows → is_at r s x ≡ true → faulty (rows_at rows s x) ≡ true
  row-there rows r m at =
      let e = at_true r s x at in
      some-row (rows_at rows s x) r (subst (λ z. Memᴰ r (rows_at rows s z)) e.1 (subst (λ z. Memᴰ r (rows_at rows z r.input)) e.0 (mem-rows rows r m)))

  faulty-union : (xs ys : List Row) → faulty (rows_at (union row_of xs ys) s x) ≡ faulty (rows_at xs s x) || faulty (rows_at ys s x)
  faulty-union xs ys =
      together (faulty (rows_at (union row_of xs ys) s x)) (faulty (rows_at xs s x) || faulty (rows_at ys s x))
      (λ h.
      let r = has-row (union row_of xs ys) h in
      ⊎_elim (λ m. or_left (faulty (rows_at xs s x)) (faulty (rows_at ys s x)) (row-there xs r.0 m r.2))
      (λ m. or_right (faulty (rows_at xs s x)) (faulty (rows_at ys s x)) (row-there ys r.0 m r.2)) (union-mem row_of xs ys r.0 r.1))
      (λ h.
      ⊎_elim (λ k. let r = has-row xs k in row-there (union row_of xs ys) r.0 (mem-left row_of row-keys xs ys r.0 r.1) r.2)
      (λ k. let r = has-row ys k in row-there (union row_of xs ys) r.0 (mem-right row_of xs ys r.0 r.1) r.2)
      (either (faulty (rows_at xs s x)) (faulty (rows_at ys s x)) h))

-- ---- the choices at a pair
twice : (b : Bool) → b ≡ b || b
twice true = refl
twice false = refl

by-rule : (rule : Option Row) (n u v w : ℕ) → ltb 1 (suc u) ≡ ltb 1 (suc v) || ltb 1 (suc w) →
    ltb 1 (maybe rule n (λ r. suc u)) ≡ ltb 1 (maybe rule n (λ r. suc v)) || ltb 1 (maybe rule n (λ r. suc w))
by-rule none n u v w h = twice (ltb 1 n)
by-rule (some r) n u v w h = h

module _ {a b : Sheet} (same : SameMachine a b) where
  -- of the second sheet, by the machine of the first
  choices-same : (s x : ℕ) → maybe (rule_at a.rules s x) (unruled_choices a) (λ r. suc (length (rows_at b.faults s x))) ≡ choices_at b s x
  unfolding choices_at unruled_choices
  choices-same s x = rw (same.size, same.quiet, same.rules) refl

  open-either : (s x : ℕ) → is_open (merged a b) s x ≡ is_open a s x || is_open b s x
  unfolding is_open choices_at unruled_choices
  open-either s x =
      by-rule (rule_at a.rules s x) (unruled_choices a) (length (rows_at (union row_of a.faults b.faults) s x)) (length (rows_at a.faults s x)) (length (rows_at b.faults s x))
      (faulty-union s x a.faults b.faults)
      ∙ ap (λ (n : ℕ). is_open a s x || ltb 1 n) (choices-same s x)

-- ---- by the tables
pair-at : (g : ℕ → ℕ → ℕ) (s x : ℕ) → s < 16 → x < 16 → get_or (by_pair g) (place_of s x) 0 ≡ g s x
pair-at g s x hs hx = table_at (λ i. g (i / 16) (i % 16)) (place_of s x) (omega arith) ∙ ap₂ g (omega arith) (omega arith)

count-below : (p q : ℕ → Bool) (n : ℕ) → ((i : ℕ) → i < n → p i ≡ q i) → count p n ≡ count q n
unfolding count
count-below p q zero h = refl
count-below p q (suc n) h = rw (h n (omega arith), count-below p q n (λ i l. h i (omega arith))) refl

module _ {a b : Sheet} {choices others : List ℕ} (same : SameMachine a b) (w : WellFormed a) (ea : choices ≡ by_pair (choices_at a)) (eb : others ≡ by_pair (choices_at b)) where
  either_is : (s x : ℕ) → s < 16 → x < 16 → either_open choices others s x ≡ is_open (merged a b) s x
  unfolding is_open
  either_is s x hs hx = rw (ea, eb, pair-at (choices_at a) s x hs hx, pair-at (choices_at b) s x hs hx) (sym (open-either same s x))

  below-is : (s : ℕ) → s ≤ 16 → open_both choices others a.size.inputs s ≡ open_below (merged a b) s
  unfolding open_both open_below
  below-is zero h = refl
  below-is (suc s) h =
      ap₂ (λ (m n : ℕ). m + n) (below-is s (omega arith))
      (count-below (either_open choices others s) (is_open (merged a b) s) a.size.inputs (λ x l. either_is s x (omega arith) (omega (arith, w.size.inputs.few))))

  pub pairs-are : open_both choices others a.size.inputs a.size.states ≡ open_pairs (merged a b)
  unfolding open_pairs
  pairs-are = below-is a.size.states w.size.states.few

-- ---- the loops
pub count_yes : (p : ℕ → Bool) (x n : ℕ) → p x ≡ true → n ≡ count p x → n + 1 ≡ count p (x + 1)
unfolding count
count_yes p x n e h = rw (add-one x, e, h) (add-one (count p x))

pub count_no : (p : ℕ → Bool) (x n : ℕ) → p x ≡ false → n ≡ count p x → n ≡ count p (x + 1)
unfolding count
count_no p x n e h = rw (add-one x, e) h

pub open_more : (choices others : List ℕ) (inputs s n r : ℕ) → n ≡ open_both choices others inputs s → r ≡ count (either_open choices others s) inputs → n + r ≡ open_both choices others inputs (s + 1)
unfolding open_both
open_more choices others inputs s n r e f = rw (add-one s, e, f) refl
