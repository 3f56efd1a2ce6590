-- Rows in order, rules at a pair, sequences along rules.
use Rattle.std.specs.Prelude.{◌≡◌, Bool, ◌&&◌, ℕ, ◌<◌, ◌≤◌, eqb}
use Rattle.std.proofs.Math.Path.{refl, subst}
use Rattle.std.proofs.Common.{◌∙◌, inl, inr, ⊎_elim}
use Rattle.std.proofs.Math.Bool.{true, false, cond}
use Rattle.std.proofs.Math.Option.{Option, none, some}
use mathlib.Core.List.{List, [], ◌∷◌, ◌++◌}
use native.Mathlib.Omega.{arith}
use Rattle.std.proofs.Math.ListN.{length}
use Rattle.std.proofs.Math.Dec.{ltb}
use borrow.Author.Tests.{ltb-true, lt-ltb, eqb-true, eq-eqb}
use Rattle.sheet.specs.declared.Row.{Row}
use Rattle.lists.specs.Lists.{maybe, first, last, All, Ascending, Before, precedes}
use Rattle.sheet.specs.Sheet.{Sheet, pair_of, is_at, rows_at, rule_at, after}
use Rattle.sheet.specs.Reading.{ascends, rises, rule_after}
use Rattle.sheet.specs.WellFormed.{WellFormed}
use Rattle.lists.specs.laws.TestLaw.{never, both, either, or_left, or_right, and_both}
use Rattle.lists.specs.laws.AllLaw.{all_snoc, all-at}

-- what is computed is the dictionary order
pub precedes-before : (xs ys : List ℕ) → precedes xs ys ≡ true → Before xs ys
unfolding precedes Before
precedes-before [] ys e = never (cc)
precedes-before (x ∷ xs) [] e = never (cc)
precedes-before (x ∷ xs) (y ∷ ys) e =
    ⊎_elim (λ q. inl (ltb-true x y q)) (λ q. let t = both (eqb x y) (precedes xs ys) q in inr (eqb-true x y t.0, precedes-before xs ys t.1))
    (either (ltb x y) (eqb x y && precedes xs ys) e)

pub before-precedes : (xs ys : List ℕ) → Before xs ys → precedes xs ys ≡ true
unfolding precedes Before
before-precedes [] ys h = absurd h
before-precedes (x ∷ xs) [] h = absurd h
before-precedes (x ∷ xs) (y ∷ ys) (inl k) = or_left (ltb x y) (eqb x y && precedes xs ys) (lt-ltb x y k)
before-precedes (x ∷ xs) (y ∷ ys) (inr k) =
    or_right (ltb x y) (eqb x y && precedes xs ys) (and_both (eqb x y) (precedes xs ys) (eq-eqb x y k.0) (before-precedes xs ys k.1))

-- the order is transitive, and nothing stands before itself
pub before-trans : (xs ys zs : List ℕ) → Before xs ys → Before ys zs → Before xs zs
unfolding Before
before-trans [] ys zs h k = absurd h
before-trans (x ∷ xs) [] zs h k = absurd h
before-trans (x ∷ xs) (y ∷ ys) [] h k = absurd k
before-trans (x ∷ xs) (y ∷ ys) (z ∷ zs) (inl h) (inl k) = inl (omega arith)
before-trans (x ∷ xs) (y ∷ ys) (z ∷ zs) (inl h) (inr k) = let same = k.0 in inl (omega arith)
before-trans (x ∷ xs) (y ∷ ys) (z ∷ zs) (inr h) (inl k) = let same = h.0 in inl (omega arith)
before-trans (x ∷ xs) (y ∷ ys) (z ∷ zs) (inr h) (inr k) = inr (h.0 ∙ k.0, before-trans xs ys zs h.1 k.1)

pub before-irreflexive : (xs : List ℕ) → Before xs xs → ⊥
unfolding Before
before-irreflexive [] h = h
before-irreflexive (x ∷ xs) (inl k) = omega arith
before-irreflexive (x ∷ xs) (inr k) = before-irreflexive xs k.1

-- the last of a list is what was added last
pub last_snoc : {A : Type 0} (l : List A) (a : A) → last (l ++ a ∷ []) ≡ some a
unfolding last
last_snoc [] a = refl
last_snoc (x ∷ []) a = refl
last_snoc (x ∷ y ∷ l) a = last_snoc (y ∷ l) a

module _ {A : Type 0} (R : A → A → Type 0) where
  -- one more element at the end, after the last
  pub ascending-snoc : ((x y z : A) → R x y → R y z → R x z) → (l : List A) (a : A) → Ascending R l → ((q : A) → last l ≡ some q → R q a) → Ascending R (l ++ a ∷ [])
  unfolding Ascending last
  ascending-snoc trans [] a h k = (tt, tt)
  ascending-snoc trans (x ∷ []) a h k = ((k x refl, tt), (tt, tt))
  ascending-snoc trans (x ∷ y ∷ l) a h k =
      let rest = ascending-snoc trans (y ∷ l) a h.1 k in
      (all_snoc (R x) (y ∷ l) a h.0 (trans x y a h.0.0 (all-at (R y) l a [] rest.0)), rest)

  -- an element stands after the last of those before it
  pub ascending-last : (l : List A) (a : A) (rest : List A) → Ascending R (l ++ a ∷ rest) → (q : A) → last l ≡ some q → R q a
  unfolding Ascending last
  ascending-last [] a rest h q e = never (cc)
  ascending-last (x ∷ []) a rest h q e = let same : x ≡ q = cc in subst (λ (y : A). R y a) same h.0.0
  ascending-last (x ∷ y ∷ l) a rest h q e = ascending-last (y ∷ l) a rest h.1 q e

module _ (key : Row → List ℕ) (rows : List Row) (r : Row) where
  -- a row ascends exactly if it stands after the last one
  pub ascends-last : ascends key rows r ≡ true → (q : Row) → last rows ≡ some q → Before (key q) (key r)
  unfolding ascends
  ascends-last h q e = precedes-before (key q) (key r) (rw e at h)

  pub last-ascends : ((q : Row) → last rows ≡ some q → Before (key q) (key r)) → ascends key rows r ≡ true
  unfolding ascends
  last-ascends h = one (last rows) h
    where
      one : (o : Option Row) → ((q : Row) → o ≡ some q → Before (key q) (key r)) → maybe o true (λ q. precedes (key q) (key r)) ≡ true
      one none k = refl
      one (some q) k = before-precedes (key q) (key r) (k q refl)

module _ (starts : List ℕ) (t : ℕ) where
  -- and so does a START's state
  pub rises-last : rises starts t ≡ true → (q : ℕ) → last starts ≡ some q → q < t
  unfolding rises
  rises-last h q e = ltb-true q t (rw e at h)

  pub last-rises : ((q : ℕ) → last starts ≡ some q → q < t) → rises starts t ≡ true
  unfolding rises
  last-rises h = one (last starts) h
    where
      one : (o : Option ℕ) → ((q : ℕ) → o ≡ some q → q < t) → maybe o true (λ q. ltb q t) ≡ true
      one none k = refl
      one (some q) k = lt-ltb q t (k q refl)

first-has : {A : Type 0} (P : A → Type 0) (l : List A) (a : A) → All P l → first l ≡ some a → P a
first-has P [] a h e = never (cc)
first-has {A} P (b ∷ l) a h e = let same : b ≡ a = cc in subst (λ (x : A). P x) same h.0

module _ (s x : ℕ) where
  rows_are : (rows : List Row) → All (λ r. is_at r s x ≡ true) (rows_at rows s x)
  unfolding rows_at
  rows_are [] = tt
  rows_are (r ∷ rows) = one (is_at r s x) refl (rows_are rows)
    where
      one : (t : Bool) → is_at r s x ≡ t → All (λ r. is_at r s x ≡ true) (rows_at rows s x) → All (λ r. is_at r s x ≡ true) (cond t (r ∷ rows_at rows s x) (rows_at rows s x))
      one true e h = (e, h)
      one false e h = h

  rows-have : (P : Row → Type 0) (rows : List Row) → All P rows → All P (rows_at rows s x)
  unfolding rows_at
  rows-have P [] h = tt
  rows-have P (r ∷ rows) h = one (is_at r s x) (rows-have P rows h.1)
    where
      one : (t : Bool) → All P (rows_at rows s x) → All P (cond t (r ∷ rows_at rows s x) (rows_at rows s x))
      one true k = (h.0, k)
      one false k = k

  -- the rule at a pair is at that pair
  pub rule-at : (rules : List Row) (r : Row) → rule_at rules s x ≡ some r → (r.source ≡ s) × (r.input ≡ x)
  unfolding rule_at
  rule-at rules r e =
      let t = both (eqb r.source s) (eqb r.input x) (first-has (λ r. is_at r s x ≡ true) (rows_at rules s x) r (rows_are rules) e) in
      (eqb-true _ _ t.0, eqb-true _ _ t.1)

  -- and has what all rules have
  pub rule-has : (P : Row → Type 0) (rules : List Row) (r : Row) → All P rules → rule_at rules s x ≡ some r → P r
  unfolding rule_at
  rule-has P rules r h e = first-has P (rows_at rules s x) r (rows-have P rules h) e

  none_after : (r : Row) (rows : List Row) → is_at r s x ≡ true → All (λ q. Before (pair_of r) (pair_of q)) rows → rows_at rows s x ≡ []
  unfolding rows_at
  none_after r [] e h = refl
  none_after r (q ∷ rows) e h = one (is_at q s x) refl (none_after r rows e h.1)
    where
      one : (t : Bool) → is_at q s x ≡ t → rows_at rows s x ≡ [] → cond t (q ∷ rows_at rows s x) (rows_at rows s x) ≡ []
      one true u k =
          let a = both (eqb r.source s) (eqb r.input x) e in
          let b = both (eqb q.source s) (eqb q.input x) u in
          let rs : r.source ≡ s = eqb-true _ _ a.0 in
          let rx : r.input ≡ x = eqb-true _ _ a.1 in
          let qs : q.source ≡ s = eqb-true _ _ b.0 in
          let qx : q.input ≡ x = eqb-true _ _ b.1 in
          absurd (before-irreflexive (s ∷ x ∷ []) (rw (rs, rx, qs, qx) at h.0))
      one false u k = k

  rows-most : (rows : List Row) → Ascending (λ q r. Before (pair_of q) (pair_of r)) rows → length (rows_at rows s x) ≤ 1
  unfolding rows_at Ascending
  rows-most [] h = omega arith
  rows-most (r ∷ rows) h = one (is_at r s x) refl (rows-most rows h.1)
    where
      one : (t : Bool) → is_at r s x ≡ t → length (rows_at rows s x) ≤ 1 → length (cond t (r ∷ rows_at rows s x) (rows_at rows s x)) ≤ 1
      one true e k = rw (none_after r rows e h.0) (omega arith)
      one false e k = k

-- a pair has one rule at most
pub one-rule : {sh : Sheet} → WellFormed sh → (s x : ℕ) → length (rows_at sh.rules s x) ≤ 1
one-rule {sh} w s x = rows-most s x sh.rules w.rules-ascend

-- one input more goes by the rule at the state reached
pub after-snoc : (rules : List Row) (s : ℕ) (xs : List ℕ) (x : ℕ)
    → after rules s (xs ++ x ∷ []) ≡ maybe (after rules s xs) none (λ u. maybe (rule_at rules u x) none (λ r. some r.target))
unfolding after
after-snoc rules s [] x = refl
after-snoc rules s (y ∷ xs) x = one (rule_at rules s y) (λ u. after-snoc rules u xs x)
  where
    one : (o : Option Row) → ((u : ℕ) → after rules u (xs ++ x ∷ []) ≡ maybe (after rules u xs) none (λ u. maybe (rule_at rules u x) none (λ r. some r.target)))
        → maybe o none (λ r. after rules r.target (xs ++ x ∷ [])) ≡ maybe (maybe o none (λ r. after rules r.target xs)) none (λ u. maybe (rule_at rules u x) none (λ r. some r.target))
    one none h = refl
    one (some r) h = h r.target

-- the same, for a test with one PRESS more
pub after-press : (rules : List Row) (xs : List ℕ) (x : ℕ) → after rules 0 (xs ++ x ∷ []) ≡ maybe (rule_after rules xs x) none (λ r. some r.target)
unfolding rule_after
after-press rules xs x = after-snoc rules 0 xs x ∙ one (after rules 0 xs)
  where
    one : (o : Option ℕ) → maybe o none (λ u. maybe (rule_at rules u x) none (λ r. some r.target)) ≡ maybe (maybe o none (λ s. rule_at rules s x)) none (λ r. some r.target)
    one none = refl
    one (some u) = refl
