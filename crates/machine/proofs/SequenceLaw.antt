-- The order of sequences, first by length and then by the dictionary; and that comparing gives the first that distinguishes.
use Prim.Native.Nat.{ℕ, ◌*◌, ◌≤◌, ◌<◌}
use native.Mathlib.Omega.{arith}
use mathlib.Core.Path.{◌≡◌, refl, sym, ap}
use mathlib.Core.Logic.{◌⊎◌, inl, inr, ⊎_elim}
use mathlib.Core.Option.{Option, none, some}
use mathlib.Core.List.{List, [], ◌∷◌, ◌++◌, append-nil}
use lib.ListN.{length, length-append}
use Rattle.lists.specs.Lists.{Before}
use Rattle.sheet.specs.laws.RowLaw.{before-trans, before-irreflexive}
use Rattle.model.specs.Machine.{Pair, DistinguishesFrom}
use Rattle.model.specs.Compare.{compare_from, compare_pair}
use Rattle.model.specs.Verdict.{After}
use Rattle.model.proofs.laws.StaysLaw.{Closed}
use Rattle.model.proofs.laws.CompareLaw.{compare-none, compare-some, conforming-not}

-- the same sequence, or a later one
abbrev pub AtMost : List ℕ → List ℕ → Type 0
AtMost xs ys = (xs ≡ ys) ⊎ After xs ys

before-append : (xs ys us vs : List ℕ) → Before xs ys → Before (xs ++ us) (ys ++ vs)
unfolding Before
before-append (x ∷ xs) (y ∷ ys) us vs b = ⊎_elim (λ l. inl l) (λ e. inr (e.0, before-append xs ys us vs e.1)) b
before-append [] ys us vs b = absurd b
before-append (x ∷ xs) [] us vs b = absurd b

before-prefix : (xs us vs : List ℕ) → Before us vs → Before (xs ++ us) (xs ++ vs)
unfolding Before
before-prefix [] us vs b = b
before-prefix (x ∷ xs) us vs b = inr (refl, before-prefix xs us vs b)

-- two sequences, as long as each other, after two of which the first stands before
pub after-append : (xs ys us vs : List ℕ) → length us ≡ length vs → After xs ys → After (xs ++ us) (ys ++ vs)
after-append xs ys us vs e a =
    let lx = length-append xs us in
    let ly = length-append ys vs in
    ⊎_elim (λ l. inl (omega arith)) (λ b. inr (omega arith, before-append xs ys us vs b.1)) a

-- a smaller last input
pub after_last : (xs : List ℕ) {x y : ℕ} → x < y → After (xs ++ x ∷ []) (xs ++ y ∷ [])
unfolding Before
after_last xs {x} {y} l = inr (simp length-append, before-prefix xs (x ∷ []) (y ∷ []) (inl l))

pub at-most-append : (xs ys us : List ℕ) → AtMost xs ys → AtMost (xs ++ us) (ys ++ us)
at-most-append xs ys us a = ⊎_elim (λ e. inl (ap (λ (zs : List ℕ). zs ++ us) e)) (λ b. inr (after-append xs ys us us refl b)) a

-- a sequence and a longer one that begins with it
pub at-most-longer : (xs us : List ℕ) → AtMost xs (xs ++ us)
at-most-longer xs [] = inl (sym (append-nil xs))
at-most-longer xs (u ∷ us) = inr (inl (simp length-append (omega arith)))

after-trans : (xs ys zs : List ℕ) → After xs ys → After ys zs → After xs zs
after-trans xs ys zs (inl l) (inl k) = inl (omega arith)
after-trans xs ys zs (inl l) (inr k) = inl (omega (arith, k.0))
after-trans xs ys zs (inr l) (inl k) = inl (omega (arith, l.0))
after-trans xs ys zs (inr l) (inr k) = inr (omega (arith, l.0, k.0), before-trans xs ys zs l.1 k.1)

pub at-most-trans : (xs ys zs : List ℕ) → AtMost xs ys → AtMost ys zs → AtMost xs zs
at-most-trans xs ys zs (inl e) b = rw e b
at-most-trans xs ys zs (inr a) (inl e) = inr (rw (sym e) a)
at-most-trans xs ys zs (inr a) (inr b) = inr (after-trans xs ys zs a b)

after-not : (xs ys : List ℕ) → After xs ys → After ys xs → ⊥
after-not xs ys a b = ⊎_elim (λ l. omega arith) (λ e. before-irreflexive xs e.1) (after-trans xs ys xs a b)

-- the first sequence that distinguishes is what comparing gives
module _ {m : Pair} (cl : Closed m) (low : m.start < m.states) where
  pub compare-first : (xs : List ℕ) → DistinguishesFrom m 0 m.start xs → ((ys : List ℕ) → DistinguishesFrom m 0 m.start ys → AtMost xs ys) →
      compare_pair m ≡ some xs
  unfolding compare_pair
  compare-first xs d least = go (compare_from m 0 m.start) refl
    where
      go : (o : Option (List ℕ)) → compare_from m 0 m.start ≡ o → o ≡ some xs
      go none e = absurd (conforming-not m 0 m.start xs (compare-none m 0 m.start cl (omega arith) low e) d)
      go (some ys) e =
          let s = compare-some m 0 m.start cl (omega arith) low ys e in
          ⊎_elim (λ same. ap some (sym same))
          (λ a. ⊎_elim (λ same. ap some (sym same)) (λ b. absurd (after-not xs ys b a)) (least ys s.distinguishes))
          (s.least xs d)

  pub compare-nothing : ((ys : List ℕ) → DistinguishesFrom m 0 m.start ys → ⊥) → compare_pair m ≡ none
  unfolding compare_pair
  compare-nothing h = go (compare_from m 0 m.start) refl
    where
      go : (o : Option (List ℕ)) → compare_from m 0 m.start ≡ o → o ≡ none
      go none e = refl
      go (some ys) e = absurd (h ys (compare-some m 0 m.start cl (omega arith) low ys e).distinguishes)

  pub compare-short : (xs : List ℕ) → compare_pair m ≡ some xs → length xs ≤ m.states * m.states
  unfolding compare_pair
  compare-short xs e = (compare-some m 0 m.start cl (omega arith) low xs e).short
