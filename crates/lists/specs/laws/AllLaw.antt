-- Laws of `All`: what holds of each element of a list.
use Rattle.std.specs.Prelude.{ℕ, zero, suc, ◌≡◌, get_or, replicate}
use Rattle.std.proofs.Common.{sym, subst, ⊎_elim}
use Rattle.std.proofs.Math.Option.{some}
use mathlib.Core.List.Memᴰ
use mathlib.Core.List.{List, [], ◌∷◌, ◌++◌, map, Memᴰ}
use Rattle.lists.specs.Lists.{first, All, joined}
use Rattle.lists.specs.laws.TestLaw.{never}

module _ {A : Type 0} (P : A → Type 0) where
  -- one element more; an element of the list
  pub all_snoc : (l : List A) (a : A) → All P l → P a → All P (l ++ a ∷ [])
  all_snoc [] a h e = (e, tt)
  all_snoc (b ∷ l) a h e = (h.0, all_snoc l a h.1 e)

  pub all-at : (l : List A) (a : A) (rest : List A) → All P (l ++ a ∷ rest) → P a
  all-at [] a rest h = h.0
  all-at (b ∷ l) a rest h = all-at l a rest h.1

  -- what holds of everything holds of each element
  pub all-every : ((x : A) → P x) → (xs : List A) → All P xs
  all-every h [] = tt
  all-every h (x ∷ xs) = (h x, all-every h xs)

  -- what follows for each element
  pub all-imp : (Q : A → Type 0) → ((x : A) → Q x → P x) → (xs : List A) → All Q xs → All P xs
  all-imp Q h [] a = tt
  all-imp Q h (x ∷ xs) a = (h x a.0, all-imp Q h xs a.1)

  -- of what is appended
  pub all_append : (xs ys : List A) → All P xs → All P ys → All P (xs ++ ys)
  all_append [] ys a b = b
  all_append (x ∷ xs) ys a b = (a.0, all_append xs ys a.1 b)

  -- of the element at a place, or of what stands in for it
  pub all_replicate : (n : ℕ) (x : A) → P x → All P (replicate n x)
  all_replicate zero x p = tt
  all_replicate (suc n) x p = (p, all_replicate n x p)

  pub all_get_d : (xs : List A) (i : ℕ) (d : A) → All P xs → P d → P (get_or xs i d)
  all_get_d [] i d a pd = pd
  all_get_d (x ∷ xs) zero d a pd = a.0
  all_get_d (x ∷ xs) (suc i) d a pd = all_get_d xs i d a.1 pd

  -- of the first element
  pub all_first : (xs : List A) (x : A) → All P xs → first xs ≡ some x → P x
  all_first [] x a e = never (cc)
  all_first (y ∷ ys) x a e = let z : y ≡ x = cc in subst P z a.0

  -- of every member
  pub all-mem : (xs : List A) (x : A) → All P xs → Memᴰ x xs → P x
  all-mem [] x a m = absurd (Memᴰ.not-nil m)
  all-mem (y ∷ ys) x a m = ⊎_elim (λ e. subst P (sym e) a.0) (λ t. all-mem ys x a.1 t) (Memᴰ.cases_cons m)

  -- of each f x
  pub all_map : {B : Type 0} (f : B → A) (xs : List B) → All (λ (x : B). P (f x)) xs → All P (map f xs)
  all_map f [] a = tt
  all_map f (x ∷ xs) a = (a.0, all_map f xs a.1)

  -- of each part that is joined
  pub all-joined : {B : Type 0} (f : B → List A) (xs : List B) → All (λ (x : B). All P (f x)) xs → All P (joined f xs)
  unfolding joined
  all-joined f [] a = tt
  all-joined f (x ∷ xs) a = all_append (f x) (joined f xs) a.0 (all-joined f xs a.1)
