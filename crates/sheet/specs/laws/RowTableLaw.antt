-- Laws of rows, their order and the tables.
use Rattle.std.specs.Prelude.{ℕ, ◌+◌, ◌<◌, ◌≤◌, ◌≡◌, Bool, ◌&&◌, ◌||◌, cond, ◌≢◌, ltb, eqb, length, get_or, set}
use Rattle.std.proofs.Math.Path.{refl, sym}
use Rattle.std.proofs.Common.{◌∙◌, arith, length-append, length-set, get_or-set_same, get_or-set_other}
use Rattle.std.proofs.Math.Bool.{true, false}
use Rattle.std.proofs.Math.Option.{Option, none, some}
use mathlib.Core.List.{List, [], ◌∷◌, ◌++◌, append-nil}
use borrow.Author.Tests.{ltb-true, ltb-false, eqb-true, eqb-false, lt-ltb, le-ltb, eq-eqb}
use Rattle.sheet.specs.declared.Row.{Row}
use Rattle.lists.specs.Lists.{maybe, first, last, All, precedes}
use Rattle.sheet.specs.Sheet.{pair_of, row_of, is_at, rows_at, rule_at}
use Rattle.sheet.specs.Reading.{ascends}
use Rattle.lists.specs.laws.TestLaw.{both, never}
use Rattle.sheet.specs.words.Tabled.{Digits, place_of, pair_key, row_key, next_key, ByPair}

pub length-snoc {ℓ} : {A : Type ℓ} (l : List A) (a : A) → length (l ++ a ∷ []) ≡ length l + 1
length-snoc l a = length-append l (a ∷ [])

-- P of what is there
abbrev pub If : {A : Type 0} → (A → Type 0) → Option A → Type 0
If P none = Unit {0}
If P (some a) = P a

module _ {A : Type 0} where
  pub all-last : (P : A → Type 0) (l : List A) → All P l → If P (last l)
  unfolding last
  all-last P [] h = tt
  all-last P (x ∷ []) h = h.0
  all-last P (x ∷ y ∷ l) h = all-last P (y ∷ l) h.1

  pub all_first : (P : A → Type 0) (l : List A) → All P l → If P (first l)
  all_first P [] h = tt
  all_first P (x ∷ l) h = h.0

all-rows : (P : Row → Type 0) (l : List Row) (s x : ℕ) → All P l → All P (rows_at l s x)
unfolding rows_at
all-rows P [] s x h = tt
all-rows P (r ∷ l) s x h = go (is_at r s x) (all-rows P l s x h.1)
  where
    go : (b : Bool) → All P (rows_at l s x) → All P (cond b (r ∷ rows_at l s x) (rows_at l s x))
    go true k = (h.0, k)
    go false k = k

pub rule-digits : (l : List Row) (s x : ℕ) → All Digits l → If Digits (rule_at l s x)
unfolding rule_at
rule-digits l s x h = all_first Digits (rows_at l s x) (all-rows Digits l s x h)

-- a row at a pair, or not
pub at_same : (r : Row) → is_at r r.source r.input ≡ true
at_same r = simp (eq-eqb r.source r.source refl, eq-eqb r.input r.input refl)

pub at_true : (r : Row) (s x : ℕ) → is_at r s x ≡ true → (r.source ≡ s) × (r.input ≡ x)
at_true r s x h = let (a, b) = both _ _ h in (eqb-true _ _ a, eqb-true _ _ b)

-- the rows at a pair, with one row more
rows_snoc : (l : List Row) (r : Row) (s x : ℕ) → rows_at (l ++ r ∷ []) s x ≡ rows_at l s x ++ cond (is_at r s x) (r ∷ []) []
unfolding rows_at
rows_snoc [] r s x = refl
rows_snoc (q ∷ l) r s x = rw (rows_snoc l r s x) (go (is_at q s x) (rows_at l s x) (cond (is_at r s x) (r ∷ []) []))
  where
    go : (b : Bool) (a c : List Row) → cond b (q ∷ (a ++ c)) (a ++ c) ≡ cond b (q ∷ a) a ++ c
    go true a c = refl
    go false a c = refl

pub rows_new : (l : List Row) (r : Row) (s x : ℕ) → is_at r s x ≡ true → rows_at (l ++ r ∷ []) s x ≡ rows_at l s x ++ r ∷ []
rows_new l r s x e = rows_snoc l r s x ∙ (rw e)

pub rows-old : (l : List Row) (r : Row) (s x : ℕ) → is_at r s x ≡ false → rows_at (l ++ r ∷ []) s x ≡ rows_at l s x
rows-old l r s x e = rows_snoc l r s x ∙ (rw e (append-nil (rows_at l s x)))

-- rows whose keys are all below have none at a later pair
none_below : (l : List Row) (k : ℕ) → All (λ q. pair_key q < k) l → (s x : ℕ) → k ≤ place_of s x → rows_at l s x ≡ []
unfolding rows_at
none_below [] k h s x m = refl
none_below (q ∷ l) k h s x m = go (is_at q s x) refl (none_below l k h.1 s x m)
  where
    go : (b : Bool) → is_at q s x ≡ b → rows_at l s x ≡ [] → cond b (q ∷ rows_at l s x) (rows_at l s x) ≡ []
    go true e ih = let (a, b) = at_true q s x e in absurd (omega (arith, h.0))
    go false e ih = ih

module _ (l : List Row) (r : Row) (s x : ℕ) where
  pub rule-new : (k : ℕ) → All (λ q. pair_key q < k) l → k ≤ pair_key r → is_at r s x ≡ true → rule_at (l ++ r ∷ []) s x ≡ some r
  unfolding rule_at
  rule-new k h m e =
      let (a, b) = at_true r s x e in
      rw (rows_new l r s x e, none_below l k h s x (omega arith))

  pub rule-old : is_at r s x ≡ false → rule_at (l ++ r ∷ []) s x ≡ rule_at l s x
  unfolding rule_at
  rule-old e = rw (rows-old l r s x e)

-- two pairs of digits are at one place of a table only where they are the same
pub apart : (r : Row) (s x : ℕ) → r.source < 16 → r.input < 16 → s < 16 → x < 16 → is_at r s x ≡ false → place_of s x ≢ pair_key r
apart r s x hs hx hs' hx' e q =
    let es : r.source ≡ s = omega arith in
    let ex : r.input ≡ x = omega arith in
    let same : is_at r s x ≡ true = rw (← es, ← ex) (at_same r) in
    never (cc)

-- a table after a store at a pair: it holds what agrees at the pair with what is stored, and elsewhere with what it held
pub table-set : {t : List ℕ} {g g' : ℕ → ℕ → ℕ} {v : ℕ} → ByPair t g → (r : Row) → r.source < 16 → r.input < 16
    → ((s x : ℕ) → is_at r s x ≡ true → g' s x ≡ v) → ((s x : ℕ) → is_at r s x ≡ false → g' s x ≡ g s x)
    → ByPair (set t (pair_key r) v) g'
table-set {t} {g} {g'} {v} h r hs hx same other = record { size = simp length-set h.size; at = λ s x hs' hx'. go s x hs' hx' (is_at r s x) refl }
  where
    go : (s x : ℕ) → s < 16 → x < 16 → (b : Bool) → is_at r s x ≡ b → get_or (set t (pair_key r) v) (place_of s x) 0 ≡ g' s x
    go s x hs' hx' true e =
        let (p, q) = at_true r s x e in
        rw (same s x e, ← p, ← q) (get_or-set_same t (pair_key r) v 0 (omega (arith, h.size)))
    go s x hs' hx' false e =
        get_or-set_other t (pair_key r) (place_of s x) v 0 (apart r s x hs hx hs' hx' e) ∙ h.at s x hs' hx' ∙ sym (other s x e)

-- dictionary order of rows of digits is the order of their keys
or_else : (a b : ℕ) (p : Bool) (k m : ℕ) → (a < b → k < m) → (b < a → m ≤ k) → (a ≡ b → p ≡ ltb k m)
    → ltb a b || (eqb a b && p) ≡ ltb k m
or_else a b p k m less more same = go (ltb a b) refl (eqb a b) refl
  where
    go : (u : Bool) → ltb a b ≡ u → (v : Bool) → eqb a b ≡ v → u || (v && p) ≡ ltb k m
    go true e v f = sym (lt-ltb k m (less (ltb-true a b e)))
    go false e true f = same (eqb-true a b f)
    go false e false f =
        let h = ltb-false a b e in
        let n = eqb-false a b f in
        let w : b < a = omega arith in
        sym (le-ltb k m (more w))

module _ (q r : Row) (dq : Digits q) (dr : Digits r) where
  pub pair-order : precedes (pair_of q) (pair_of r) ≡ ltb (pair_key q) (pair_key r)
  unfolding precedes
  pair-order =
      or_else q.source r.source _ (pair_key q) (pair_key r) (λ h. omega arith) (λ h. omega arith) (λ e.
      or_else q.input r.input false (pair_key q) (pair_key r) (λ h. omega arith) (λ h. omega arith) (λ f.
      sym (le-ltb (pair_key q) (pair_key r) (omega arith))))

  pub row-order : precedes (row_of q) (row_of r) ≡ ltb (row_key q) (row_key r)
  unfolding precedes
  row-order =
      or_else q.source r.source _ (row_key q) (row_key r) (λ h. omega arith) (λ h. omega arith) (λ e.
      or_else q.input r.input _ (row_key q) (row_key r) (λ h. omega arith) (λ h. omega arith) (λ f.
      or_else q.output r.output _ (row_key q) (row_key r) (λ h. omega arith) (λ h. omega arith) (λ g.
      or_else q.target r.target false (row_key q) (row_key r) (λ h. omega arith) (λ h. omega arith) (λ i.
      sym (le-ltb (row_key q) (row_key r) (omega arith))))))

module _ (digits : Row → List ℕ) (key : Row → ℕ) (order : (q r : Row) → Digits q → Digits r → precedes (digits q) (digits r) ≡ ltb (key q) (key r))
    (l : List Row) (r : Row) (dl : All Digits l) (dr : Digits r) where
  pub ascends-true : next_key key (last l) ≤ key r → ascends digits l r ≡ true
  unfolding ascends
  ascends-true h = go (last l) (all-last Digits l dl) h
    where
      go : (o : Option Row) → If Digits o → next_key key o ≤ key r → maybe o true (λ q. precedes (digits q) (digits r)) ≡ true
      go none d k = refl
      go (some q) d k = order q r d dr ∙ lt-ltb (key q) (key r) (omega arith)

  pub ascends-false : key r < next_key key (last l) → ascends digits l r ≡ false
  unfolding ascends
  ascends-false h = go (last l) (all-last Digits l dl) h
    where
      go : (o : Option Row) → If Digits o → key r < next_key key o → maybe o true (λ q. precedes (digits q) (digits r)) ≡ false
      go none d k = absurd (omega arith)
      go (some q) d k = order q r d dr ∙ le-ltb (key q) (key r) (omega arith)
