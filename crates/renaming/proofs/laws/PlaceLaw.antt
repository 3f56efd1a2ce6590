-- Places in lists; different numbers below n are n at most; a renaming has an inverse, and sums over the states do not see it.
use Prim.Native.Nat.{ℕ, zero, suc, ◌≤◌, ◌<◌, suc-le-suc}
use Rattle.std.proofs.Common.{le_of_suc-le-suc, ◌∙◌, ap, subst, inl, inr}
use native.Mathlib.Omega.{arith}
use Rattle.std.specs.Prelude.{◌≡◌, Bool}
use Rattle.std.proofs.Math.Path.{refl, sym}
use Rattle.std.proofs.Math.Bool.{true, false, cond}
use Rattle.std.proofs.Math.Logic.{⊎_elim}
use mathlib.Core.List.Memᴰ
use mathlib.Core.List.{List, [], ◌∷◌, map, Memᴰ}
use Rattle.std.proofs.Math.Dec.{eqb, ltb}
use Rattle.std.proofs.Math.ListN.{length, get_or}
use Rattle.std.proofs.lemmas.List.{length-map}
use borrow.Author.Tests.{ltb-true, ltb-false, eqb-true, eqb-false, eq-eqb, ne_eqb}
use Rattle.lists.specs.Lists.{All, Ascending, Before, up_to}
use Rattle.lists.specs.laws.AllLaw.{all-every, all-imp, all-mem, all_map}
use Rattle.lists.specs.laws.ListLaw.{ascending-of, get_or-map-below, length-up_to, get_or-up_to}
use Rattle.lists.specs.laws.MemberLaw.{ascending-few, up_to-below, up_to-has, up_to-ascending}
use Rattle.renaming.specs.Ordering.{sorted, only, place_in}
use Rattle.renaming.specs.Renaming.{Renames}
use Rattle.renaming.proofs.laws.SortLaw.{Keys, Up, Distinct, mem-all, union-all, sorted-up, mem-sorted, sorted-mem, sorted-length, up_same, distinct-map, total, total-map, total-same, total-sorted}

module _ (x : ℕ) where
  -- a member's place is below the length, and only a member's is
  pub place-below : (xs : List ℕ) → Memᴰ x xs → place_in x xs < length xs
  unfolding place_in
  place-below [] m = absurd (Memᴰ.not-nil m)
  place-below (y ∷ xs) m = go (eqb x y) refl (place-below xs)
    where
      go : (b : Bool) → eqb x y ≡ b → (Memᴰ x xs → place_in x xs < length xs) → cond b zero (suc (place_in x xs)) < suc (length xs)
      go true e h = omega arith
      go false e h = ⊎_elim (λ same. absurd (eqb-false x y e same)) (λ n. suc-le-suc (h n)) (Memᴰ.cases_cons m)

  pub place-mem : (xs : List ℕ) → place_in x xs < length xs → Memᴰ x xs
  unfolding place_in
  place-mem [] l = absurd (omega arith)
  place-mem (y ∷ xs) l = go (eqb x y) refl (place-mem xs) l
    where
      go : (b : Bool) → eqb x y ≡ b → (place_in x xs < length xs → Memᴰ x xs) → cond b zero (suc (place_in x xs)) < suc (length xs) → Memᴰ x (y ∷ xs)
      go true e h k = Memᴰ.head (eqb-true x y e)
      go false e h k = Memᴰ.tail (h (le_of_suc-le-suc k))

  -- x stands there
  pub place_at : (xs : List ℕ) (d : ℕ) → place_in x xs < length xs → get_or xs (place_in x xs) d ≡ x
  unfolding place_in
  place_at [] d l = absurd (omega arith)
  place_at (y ∷ xs) d l = go (eqb x y) refl (place_at xs d) l
    where
      go : (b : Bool) → eqb x y ≡ b → (place_in x xs < length xs → get_or xs (place_in x xs) d ≡ x) → cond b zero (suc (place_in x xs)) < suc (length xs) →
          get_or (y ∷ xs) (cond b zero (suc (place_in x xs))) d ≡ x
      go true e h k = sym (eqb-true x y e)
      go false e h k = h (le_of_suc-le-suc k)

  -- a function that tells x from the others keeps its place
  pub place_map : (p : ℕ → ℕ) (xs : List ℕ) → All (λ y. p x ≡ p y → x ≡ y) xs → place_in (p x) (map p xs) ≡ place_in x xs
  unfolding place_in
  place_map p [] a = refl
  place_map p (y ∷ xs) a = go (eqb x y) refl (place_map p xs a.1)
    where
      go : (b : Bool) → eqb x y ≡ b → place_in (p x) (map p xs) ≡ place_in x xs → cond (eqb (p x) (p y)) zero (suc (place_in (p x) (map p xs))) ≡ cond b zero (suc (place_in x xs))
      go true e h = rw (eq-eqb (p x) (p y) (ap p (eqb-true x y e))) refl
      go false e h = rw (ne_eqb (p x) (p y) (λ same. eqb-false x y e (a.0 same)), h) refl

-- ---- numbers in order
pub only-keys : Keys only
only-keys = record { apart = λ x y e. cc; long = λ x y. refl }

pub only-less : (x y : ℕ) → Up only x y → x < y
unfolding Before
only-less x y (inl l) = l
only-less x y (inr (e, b)) = absurd b

pub less-only : (x y : ℕ) → x < y → Up only x y
unfolding Before
less-only x y l = inl l

pub only-rises : (xs : List ℕ) → Ascending (Up only) xs → Ascending ◌<◌ xs
only-rises xs = ascending-of (λ x. Unit {0}) (Up only) ◌<◌ (λ x y a b. only-less x y) xs (all-every (λ x. Unit {0}) (λ x. tt) xs)

pub rises-only : (xs : List ℕ) → Ascending ◌<◌ xs → Ascending (Up only) xs
rises-only xs = ascending-of (λ x. Unit {0}) ◌<◌ (Up only) (λ x y a b. less-only x y) xs (all-every (λ x. Unit {0}) (λ x. tt) xs)

-- ---- different numbers below n
module _ (n : ℕ) where
  -- are n at most
  pub distinct-few : (xs : List ℕ) → All (λ x. x < n) xs → Distinct xs → length xs ≤ n
  distinct-few xs a d =
      let few = ascending-few 0 n (sorted only xs) (omega arith)
      (union-all only (λ x. (0 ≤ x) × (x < n)) xs [] (all-imp (λ x. (0 ≤ x) × (x < n)) (λ x. x < n) (λ x l. (omega arith, l)) xs a) tt)
      (only-rises (sorted only xs) (sorted-up only only-keys xs)) in
      omega (arith, sorted-length only only-keys xs d)

  -- and if they are n, every number below n is one of them
  pub distinct-full : (xs : List ℕ) → All (λ x. x < n) xs → Distinct xs → n ≤ length xs → (t : ℕ) → t < n → Memᴰ t xs
  unfolding Ascending
  distinct-full xs a d many t l = go (ltb (place_in t xs) (length xs)) refl
    where
      go : (b : Bool) → ltb (place_in t xs) (length xs) ≡ b → Memᴰ t xs
      go true e = place-mem t xs (ltb-true (place_in t xs) (length xs) e)
      go false e =
          let out : All (λ x. t ≡ x → ⊥) xs = mem-all (λ x. t ≡ x → ⊥) xs (λ x m same.
          let h = place-below t xs (subst (λ z. Memᴰ z xs) (sym same) m) in
          omega (arith, ltb-false (place_in t xs) (length xs) e)) in
          let few = distinct-few (t ∷ xs) (l, a) (out, d) in
          absurd (omega arith)

-- ---- renamings
-- p and q lead the numbers below n to one another
pub record Inverse (n : ℕ) (p q : ℕ → ℕ) : Type 0 where
  pub renames : Renames n q
  pub left : (s : ℕ) → s < n → q (p s) ≡ s
  pub right : (s : ℕ) → s < n → p (q s) ≡ s

module _ (n : ℕ) (p : ℕ → ℕ) (some : 1 ≤ n) (r : Renames n p) where
  -- the states in their new names
  abbrev names : List ℕ
  names = map p (up_to n)

  names-below : All (λ x. x < n) names
  names-below = all_map (λ x. x < n) p (up_to n) (all-imp (λ x. p x < n) (λ x. x < n) r.into (up_to n) (up_to-below n))

  names-distinct : Distinct names
  names-distinct = distinct-map (λ x. x < n) ◌<◌ p (λ x y a b l e. let same = r.apart x y a b e in omega arith) (up_to n) (up_to-below n) (up_to-ascending n)

  names-length : length names ≡ n
  names-length = length-map (up_to n) p ∙ length-up_to n

  named : (t : ℕ) → t < n → place_in t names < n
  named t l = rw names-length at (place-below t names (distinct-full n names names-below names-distinct (omega (arith, names-length)) t l))

  -- each renaming has an inverse
  pub inverse : (q : ℕ → ℕ) × Inverse n p q
  inverse = (q, record { renames = record { zeroth = zeroth; into = named; apart = λ s t ls lt e. sym (back s ls) ∙ ap p e ∙ back t lt }; left = on; right = back })
    where
      q : ℕ → ℕ
      q t = place_in t names

      back : (t : ℕ) → t < n → p (q t) ≡ t
      back t l =
          let at = named t l in
          ap p (sym (get_or-up_to n (q t) 0 at)) ∙ sym (get_or-map-below p (up_to n) (q t) 0 0 (rw (length-up_to n) at)) ∙ place_at t names 0 (rw names-length at)

      on : (s : ℕ) → s < n → q (p s) ≡ s
      on s l = r.apart (q (p s)) s (named (p s) (r.into s l)) l (back (p s) (r.into s l))

      zeroth : q 0 ≡ 0
      zeroth = ap q (sym r.zeroth) ∙ on 0 (omega arith)

  -- a sum over the states does not depend on their names
  names-sorted : sorted only names ≡ up_to n
  names-sorted =
      up_same only (sorted only names) (up_to n) (sorted-up only only-keys names) (rises-only (up_to n) (up_to-ascending n))
      (λ z m. up_to-has n z (all-mem (λ x. x < n) names z names-below (sorted-mem only only-keys names z m)))
      (λ z m. mem-sorted only only-keys names z
      (distinct-full n names names-below names-distinct (omega (arith, names-length)) z (all-mem (λ x. x < n) (up_to n) z (up_to-below n) m)))

  pub total-renamed : (f g : ℕ → ℕ) → ((s : ℕ) → s < n → f (p s) ≡ g s) → total f (up_to n) ≡ total g (up_to n)
  total-renamed f g h =
      ap (total f) (sym names-sorted) ∙ total-sorted only only-keys f names names-distinct ∙ total-map f p (up_to n)
      ∙ total-same (λ s. f (p s)) g (up_to n) (all-imp (λ s. f (p s) ≡ g s) (λ s. s < n) h (up_to n) (up_to-below n))
