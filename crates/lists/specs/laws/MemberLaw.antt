-- Laws of members of `map`, `joined` and `up_to`, and of lists that ascend.
use Rattle.std.specs.Prelude.{ℕ, zero, suc, ◌+◌, ◌<◌, ◌≤◌, ◌≡◌, length}
use Rattle.std.proofs.Common.{suc-le-suc, not-suc-le-zero, le_of_suc-le-suc, arith, ap, subst}
use Rattle.std.proofs.Math.Path.{refl}
use Rattle.std.proofs.Math.Logic.{⊎_elim}
use mathlib.Core.List.Memᴰ
use mathlib.Core.List.{List, [], ◌∷◌, ◌++◌, map, Memᴰ}
use Rattle.lists.specs.Lists.{All, Ascending, up_to, joined}
use Rattle.lists.specs.laws.ListLaw.{all_both}
use Rattle.lists.specs.laws.AllLaw.{all-every, all-imp, all_append, all_map}

module _ {A B : Type 0} where
  -- members of `map`
  pub mem-map : (f : A → B) {x : A} {xs : List A} → Memᴰ x xs → Memᴰ (f x) (map f xs)
  mem-map f (Memᴰ.head e) = Memᴰ.head (ap f e)
  mem-map f (Memᴰ.tail m) = Memᴰ.tail (mem-map f m)

  -- members of `map` come from members
  pub map-mem : (f : A → B) (xs : List A) {y : B} → Memᴰ y (map f xs) → (x : A) × Memᴰ x xs × (y ≡ f x)
  map-mem f [] m = absurd (Memᴰ.not-nil m)
  map-mem f (x ∷ xs) m =
      ⊎_elim (λ e. (x, Memᴰ.head refl, e))
      (λ t. let r = map-mem f xs t in (r.0, Memᴰ.tail r.1, r.2))
      (Memᴰ.cases_cons m)

  -- members of `joined`
  pub mem-joined : (f : A → List B) {x : A} {xs : List A} {y : B} → Memᴰ x xs → Memᴰ y (f x) → Memᴰ y (joined f xs)
  unfolding joined
  mem-joined f {y = y} (Memᴰ.head {xs = xs} e) m = Memᴰ.append_left (joined f xs) (subst (λ z. Memᴰ y (f z)) e m)
  mem-joined f (Memᴰ.tail {x = x} h) m = Memᴰ.append_right (f x) (mem-joined f h m)

  -- members of `joined` come from members
  pub joined-mem : (f : A → List B) (xs : List A) {y : B} → Memᴰ y (joined f xs) → (x : A) × Memᴰ x xs × Memᴰ y (f x)
  unfolding joined
  joined-mem f [] m = absurd (Memᴰ.not-nil m)
  joined-mem f (x ∷ xs) m =
      ⊎_elim (λ h. (x, Memᴰ.head refl, h))
      (λ t. let r = joined-mem f xs t in (r.0, Memᴰ.tail r.1, r.2))
      (Memᴰ.append_cases (f x) m)

-- the numbers of `up_to n` are below n
pub up_to-below : (n : ℕ) → All (λ (i : ℕ). i < n) (up_to n)
unfolding up_to
up_to-below zero = tt
up_to-below (suc n) = (
  omega arith,
  all_map (λ (i : ℕ). i < suc n) (λ (i : ℕ). suc i) (up_to n)
      (all-imp (λ (i : ℕ). suc i < suc n) (λ (i : ℕ). i < n) (λ i l. suc-le-suc l) (up_to n) (up_to-below n)),
)

-- every number below n is in `up_to n`
pub up_to-has : (n i : ℕ) → i < n → Memᴰ i (up_to n)
unfolding up_to
up_to-has zero i l = absurd (not-suc-le-zero l)
up_to-has (suc n) zero l = Memᴰ.head refl
up_to-has (suc n) (suc i) l = Memᴰ.tail (mem-map (λ (j : ℕ). suc j) (up_to-has n i (le_of_suc-le-suc l)))

-- a function that keeps the order
pub ascending-map : {A B : Type 0} (R : A → A → Type 0) (S : B → B → Type 0) (f : A → B) → ((x y : A) → R x y → S (f x) (f y)) →
    (xs : List A) → Ascending R xs → Ascending S (map f xs)
unfolding Ascending
ascending-map R S f h [] a = tt
ascending-map {A} R S f h (x ∷ xs) a = (
  all_map (S (f x)) f xs (all-imp (λ (y : A). S (f x) (f y)) (R x) (λ y r. h x y r) xs a.0),
  ascending-map R S f h xs a.1,
)

-- two ascending lists, the first before the second
pub ascending-append : {A : Type 0} (R : A → A → Type 0) (xs ys : List A) → Ascending R xs → Ascending R ys →
    All (λ (x : A). All (R x) ys) xs →
    Ascending R (xs ++ ys)
unfolding Ascending
ascending-append R [] ys a c h = c
ascending-append R (x ∷ xs) ys a c h = (all_append (R x) xs ys a.0 h.0, ascending-append R xs ys a.1 c h.1)

-- `up_to` ascends
pub up_to-ascending : (n : ℕ) → Ascending ◌<◌ (up_to n)
unfolding up_to Ascending
up_to-ascending zero = tt
up_to-ascending (suc n) = (
  all_map (λ (i : ℕ). 0 < i) (λ (i : ℕ). suc i) (up_to n) (all-every (λ (i : ℕ). 0 < suc i) (λ i. omega arith) (up_to n)),
  ascending-map ◌<◌ ◌<◌ (λ (i : ℕ). suc i) (λ i j l. suc-le-suc l) (up_to n) (up_to-ascending n),
)

-- ascending numbers from a up to below n are at most n - a
pub ascending-few : (a n : ℕ) (xs : List ℕ) → a ≤ n → All (λ (x : ℕ). (a ≤ x) × (x < n)) xs → Ascending ◌<◌ xs → a + length xs ≤ n
unfolding Ascending
ascending-few a n [] k h u = omega arith
ascending-few a n (x ∷ xs) k h u =
    let (low, high) = h.0 in
    let rest = ascending-few (suc x) n xs high (all_both (λ (y : ℕ). (a ≤ y) × (y < n)) (λ (y : ℕ). x < y) _ (λ y i j. (j, i.1)) xs h.1 u.0) u.1 in
    omega arith
