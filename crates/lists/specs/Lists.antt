-- Words about options, lists and numbers that the definitions share.
use Rattle.std.specs.Prelude.{ℕ, zero, suc, ◌<◌, ◌≡◌, Bool, true, false, ◌&&◌, ◌||◌, cond, ◌⊎◌, List, [], ◌∷◌, ◌++◌, map, eqb, ltb, length, drop}
use Rattle.std.proofs.Math.Option.{Option, none, some}

-- by cases: b where there is nothing, f of what there is
abbrev pub maybe : {A B : Type 0} → Option A → B → (A → B) → B
maybe none b f = b
maybe (some a) b f = f a

abbrev pub is_none : {A : Type 0} → Option A → Bool
is_none none = true
is_none (some a) = false

-- an index, or d where there is none
abbrev pub index_or : ℕ → Option ℕ → ℕ
index_or d none = d
index_or d (some i) = i

abbrev pub first : {A : Type 0} → List A → Option A
first [] = none
first (x ∷ xs) = some x

unfoldable pub last : {A : Type 0} → List A → Option A
last [] = none
last (x ∷ []) = some x
last (x ∷ y ∷ l) = last (y ∷ l)

-- P holds of each element
abbrev pub All : {A : Type 0} → (A → Type 0) → List A → Type 0
All P [] = Unit {0}
All P (x ∷ xs) = P x × All P xs

-- each element stands in the relation to every later one
unfoldable pub Ascending : {A : Type 0} → (A → A → Type 0) → List A → Type 0
Ascending R [] = Unit {0}
Ascending R (x ∷ xs) = All (R x) xs × Ascending R xs

-- dictionary order of lists of numbers of the same length: the smaller number where the two first differ stands first
unfoldable pub Before : List ℕ → List ℕ → Type 0
Before [] ys = ⊥
Before (x ∷ xs) [] = ⊥
Before (x ∷ xs) (y ∷ ys) = (x < y) ⊎ ((x ≡ y) × Before xs ys)

-- the same, computed
unfoldable pub precedes : List ℕ → List ℕ → Bool
precedes [] ys = false
precedes (x ∷ xs) [] = false
precedes (x ∷ xs) (y ∷ ys) = ltb x y || (eqb x y && precedes xs ys)

-- how many numbers below n pass; whether one does; whether all do
unfoldable pub count : (ℕ → Bool) → ℕ → ℕ
count p zero = 0
count p (suc i) = let rest = count p i in cond (p i) (suc rest) rest

unfoldable pub any : (ℕ → Bool) → ℕ → Bool
any p zero = false
any p (suc i) = p i || any p i

unfoldable pub all : (ℕ → Bool) → ℕ → Bool
all p zero = true
all p (suc i) = p i && all p i

-- 0, 1, .., n - 1
unfoldable pub up_to : ℕ → List ℕ
up_to zero = []
up_to (suc n) = zero ∷ map (λ (i : ℕ). suc i) (up_to n)

-- f of each element, joined
unfoldable pub joined : {A B : Type 0} → (A → List B) → List A → List B
joined f [] = []
joined f (x ∷ xs) = f x ++ joined f xs

-- a buffer with xs at its front and the rest as it was
abbrev pub overlay : List ℕ → List ℕ → List ℕ
overlay xs buffer = xs ++ drop (length xs) buffer
