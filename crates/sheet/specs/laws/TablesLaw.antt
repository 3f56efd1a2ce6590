-- The tables of a sheet, entry by entry, and where the faults of a pair stand.
use Prim.Native.Nat.{ℕ, zero, suc, ◌+◌, ◌*◌, ◌<◌, ◌≤◌}
use Rattle.std.specs.Prelude.{◌≡◌, Bool, ◌&&◌, ◌⊎◌, eqb}
use Rattle.std.proofs.Math.Path.{refl, ap}
use Rattle.std.proofs.Common.{sym, ◌∙◌}
use Rattle.std.proofs.Math.Bool.{true, false, cond}
use Rattle.std.proofs.Math.Logic.{inl, inr}
use mathlib.Core.List.{List, [], ◌∷◌, map}
use native.Mathlib.Omega.{arith}
use Rattle.std.proofs.Math.ListN.{length, get_or}
use Rattle.std.proofs.lemmas.List.{length-map}
use borrow.Author.Tests.{eqb-true, eq-eqb, ne_eqb}
use Rattle.sheet.specs.declared.Row.{Row}
use Rattle.sheet.specs.declared.Size.{Size}
use Rattle.lists.specs.Lists.{is_none, first, up_to, All, Ascending, Before}
use Rattle.sheet.specs.Sheet.{Sheet, row_of, is_at, rows_at, unruled_choices}
use Rattle.sheet.specs.WellFormed.{WellFormed}
use Rattle.std.specs.Prelude.{Ok, Err}
use Rattle.sheet.specs.declared.Summary.{Summary}
use Rattle.sheet.specs.declared.Refusal.{Refusal}
use Rattle.sheet.specs.Reading.{Reading, accepted, refused}
use Rattle.sheet.specs.Tables.{Tables, table, first_at, first_fault, no_row, read_answer, loaded_of, read_into, blank_tables}
use Rattle.lists.specs.laws.ListLaw.{get_or-map-below, length-up_to, get_or-up_to}
use Rattle.lists.specs.laws.TestLaw.{both, never}

-- f of each number below n
module _ (n : ℕ) (f : ℕ → ℕ) where
  pub below_length : length (map f (up_to n)) ≡ n
  below_length = length-map (up_to n) f ∙ length-up_to n

  pub below_at : (i : ℕ) → i < n → get_or (map f (up_to n)) i 0 ≡ f i
  below_at i h = get_or-map-below f (up_to n) i 0 0 (omega (arith, length-up_to n)) ∙ ap f (get_or-up_to n i 0 h)

pub table-length : (f : ℕ → ℕ) → length (table f) ≡ 256
table-length f = below_length 256 f

pub table_at : (f : ℕ → ℕ) (i : ℕ) → i < 256 → get_or (table f) i 0 ≡ f i
table_at f i h = below_at 256 f i h

pub rows_few : (l : List Row) (s x : ℕ) → length (rows_at l s x) ≤ length l
unfolding rows_at
rows_few [] s x = omega arith
rows_few (r ∷ l) s x = one (is_at r s x) (rows_few l s x)
  where
    one : (b : Bool) → length (rows_at l s x) ≤ length l → length (cond b (r ∷ rows_at l s x) (rows_at l s x)) ≤ suc (length l)
    one true h = omega arith
    one false h = omega arith

module _ (s x : ℕ) where
  -- a row whose pair stands later
  Past : Row → Type 0
  Past q = (s < q.source) ⊎ ((s ≡ q.source) × (x < q.input))

  past-not : (q : Row) → Past q → is_at q s x ≡ false
  unfolding Past
  past-not q (inl h) = simp (ne_eqb q.source s (λ e. omega arith))
  past-not q (inr h) = let k = h.1 in rw (ne_eqb q.input x (λ e. omega arith)) (one (eqb q.source s))
    where
      one : (b : Bool) → b && false ≡ false
      one true = refl
      one false = refl

  past-on : (q r : Row) → Past q → Before (row_of q) (row_of r) → Past r
  unfolding Past Before
  past-on q r (inl h) (inl k) = inl (omega arith)
  past-on q r (inl h) (inr k) = let e = k.0 in inl (omega arith)
  past-on q r (inr h) (inl k) = let e = h.0 in inl (omega arith)
  past-on q r (inr h) (inr (e, inl k)) = inr (h.0 ∙ e, let m = h.1 in omega arith)
  past-on q r (inr h) (inr (e, inr k)) = let m = h.1 in let d = k.0 in inr (h.0 ∙ e, omega arith)

  past_next : (r q : Row) → is_at r s x ≡ true → Before (row_of r) (row_of q) → is_at q s x ≡ false → Past q
  unfolding Past Before
  past_next r q a (inl k) b = let t = both (eqb r.source s) (eqb r.input x) a in let e = eqb-true r.source s t.0 in inl (omega arith)
  past_next r q a (inr (e, inl k)) b =
      let t = both (eqb r.source s) (eqb r.input x) a in
      let d = eqb-true r.input x t.1 in
      inr (sym (eqb-true r.source s t.0) ∙ e, omega arith)
  past_next r q a (inr (e, inr k)) b =
      let t = both (eqb r.source s) (eqb r.input x) a in
      let same : is_at q s x ≡ true = simp (eq-eqb q.source s (sym e ∙ eqb-true r.source s t.0), eq-eqb q.input x (sym k.0 ∙ eqb-true r.input x t.1)) in
      never (cc)

  none-past : (q : Row) → Past q → (l : List Row) → All (λ r. Before (row_of q) (row_of r)) l → rows_at l s x ≡ []
  unfolding rows_at
  none-past q h [] k = refl
  none-past q h (r ∷ l) k = rw (past-not r (past-on q r h k.0)) (none-past q h l k.1)

  -- after a row at the pair come the others at the pair, and then none
  follow : (r : Row) → is_at r s x ≡ true → (l : List Row) → All (λ q. Before (row_of r) (row_of q)) l → Ascending (λ q r. Before (row_of q) (row_of r)) l
      → (c : ℕ) → c < length (rows_at l s x) → get_or (rows_at l s x) c no_row ≡ get_or l c no_row
  unfolding rows_at Ascending
  follow r a [] h up c k = absurd (omega arith)
  follow r a (q ∷ l) h up c k = one (is_at q s x) refl (λ e. follow q e l up.0 up.1) c k
    where
      one : (b : Bool) → is_at q s x ≡ b → (is_at q s x ≡ true → (c : ℕ) → c < length (rows_at l s x) → get_or (rows_at l s x) c no_row ≡ get_or l c no_row)
          → (c : ℕ) → c < length (cond b (q ∷ rows_at l s x) (rows_at l s x)) → get_or (cond b (q ∷ rows_at l s x) (rows_at l s x)) c no_row ≡ get_or (q ∷ l) c no_row
      one true e ih zero k = refl
      one true e ih (suc c) k = ih e c (omega arith)
      one false e ih c k = absurd (omega (arith, ap length (none-past q (past_next r q a h.0 e) l up.0)))

  together : (l : List Row) → Ascending (λ q r. Before (row_of q) (row_of r)) l
      → (c : ℕ) → c < length (rows_at l s x) → get_or (rows_at l s x) c no_row ≡ get_or l (first_at l s x + c) no_row
  unfolding rows_at first_at Ascending
  together [] up c k = absurd (omega arith)
  together (r ∷ l) up c k = one (is_at r s x) refl (together l up.1) c k
    where
      at_next : (n c : ℕ) → get_or (r ∷ l) (suc n + c) no_row ≡ get_or l (n + c) no_row
      at_next n c = let e : suc n + c ≡ suc (n + c) = omega arith in rw e

      one : (b : Bool) → is_at r s x ≡ b → ((c : ℕ) → c < length (rows_at l s x) → get_or (rows_at l s x) c no_row ≡ get_or l (first_at l s x + c) no_row)
          → (c : ℕ) → c < length (cond b (r ∷ rows_at l s x) (rows_at l s x))
          → get_or (cond b (r ∷ rows_at l s x) (rows_at l s x)) c no_row ≡ get_or (r ∷ l) (cond b 0 (suc (first_at l s x)) + c) no_row
      one true e ih zero k = refl
      one true e ih (suc c) k = let d : 0 + suc c ≡ suc c = omega arith in rw d (follow r e l up.0 up.1 c (omega arith))
      one false e ih c k = ih c k ∙ sym (at_next (first_at l s x) c)

  index_below : (l : List Row) (c : ℕ) → c < length (rows_at l s x) → first_at l s x + c < length l
  unfolding rows_at first_at
  index_below [] c k = absurd (omega arith)
  index_below (r ∷ l) c k = one (is_at r s x) (index_below l c) k
    where
      one : (b : Bool) → (c < length (rows_at l s x) → first_at l s x + c < length l)
          → c < length (cond b (r ∷ rows_at l s x) (rows_at l s x)) → cond b 0 (suc (first_at l s x)) + c < suc (length l)
      one true ih k = omega (arith, rows_few l s x)
      one false ih k = let h = ih k in omega arith

  first_some : (l : List Row) → 1 ≤ length (rows_at l s x) → first_fault l s x ≡ first_at l s x
  unfolding first_fault
  first_some l h = one (rows_at l s x) h
    where
      one : (rows : List Row) → 1 ≤ length rows → cond (is_none (first rows)) 0 (first_at l s x) ≡ first_at l s x
      one [] k = absurd (omega arith)
      one (r ∷ rows) k = refl

  module _ {sh : Sheet} (w : WellFormed sh) (c : ℕ) (h : c < length (rows_at sh.faults s x)) where
    -- the faults of a pair stand together, from the first one's index on
    pub fault-at : get_or (rows_at sh.faults s x) c no_row ≡ get_or sh.faults (first_fault sh.faults s x + c) no_row
    fault-at = together sh.faults w.faults-ascend c h ∙ ap (λ (n : ℕ). get_or sh.faults (n + c) no_row) (sym (first_some sh.faults (omega arith)))

    pub fault-below : first_fault sh.faults s x + c < length sh.faults
    fault-below = omega (arith, index_below sh.faults c h, first_some sh.faults (omega arith))

-- the choices of a pair without a rule
pub unruled-by : (sh : Sheet) (z : Size) (q : Bool) → z ≡ sh.size → q ≡ sh.quiet → cond q 1 (z.outputs * z.states) ≡ unruled_choices sh
unfolding unruled_choices
unruled-by sh z q e f = rw (e, f)

-- an accepted sheet's tables do not rest on those that it was read into; a refused one leaves these
pub into-accepted : (d : Reading) (t : Tables) {z : Summary} {u : Tables} → Ok z ≡ read_answer d → u ≡ read_into d t → u ≡ loaded_of d
into-accepted (accepted sh) t e h = h
into-accepted (refused number place) t e h = never (cc e)

pub into-refused : (d : Reading) {why : Refusal} → Err why ≡ read_answer d → blank_tables ≡ loaded_of d
into-refused (accepted sh) e = never (cc e)
into-refused (refused number place) e = refl
