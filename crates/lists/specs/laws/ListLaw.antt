-- Laws of places in lists: of `map`, of `joined`, of the numbers below n.
use Rattle.std.specs.Prelude.{ℕ, zero, suc, ◌+◌, ◌*◌, ◌<◌, ◌≡◌, refl, List, [], ◌∷◌, ◌++◌, map, length, get_or}
use Rattle.std.proofs.Common.{suc-le-suc, le_of_suc-le-suc, arith, sym, ◌∙◌, ap, append_assoc, length-append}
use Rattle.std.proofs.lemmas.List.{length-map}
use Rattle.lists.specs.Lists.{All, Ascending, up_to, joined}

-- the element of `map f xs` at a place
pub get_or-map-below : {A B : Type 0} (f : A → B) (xs : List A) (i : ℕ) (d : B) (e : A) → i < length xs → get_or (map f xs) i d ≡ f (get_or xs i e)
get_or-map-below f [] i d e l = absurd (omega arith)
get_or-map-below f (x ∷ xs) zero d e l = refl
get_or-map-below f (x ∷ xs) (suc i) d e l = get_or-map-below f xs i d e (le_of_suc-le-suc l)

-- what follows for each element from two facts
pub all_both : {A : Type 0} (P Q R : A → Type 0) → ((x : A) → P x → Q x → R x) → (xs : List A) → All P xs → All Q xs → All R xs
all_both P Q R h [] a c = tt
all_both P Q R h (x ∷ xs) a c = (h x a.0 c.0, all_both P Q R h xs a.1 c.1)

-- another order of the same list, for elements of which P holds
pub ascending-of : {A : Type 0} (P : A → Type 0) (R S : A → A → Type 0) → ((x y : A) → P x → P y → R x y → S x y) →
    (xs : List A) → All P xs → Ascending R xs → Ascending S xs
unfolding Ascending
ascending-of P R S h [] a c = tt
ascending-of P R S h (x ∷ xs) a c =
    (all_both P (R x) (S x) (λ y p r. h x y a.0 p r) xs a.1 c.0, ascending-of P R S h xs a.1 c.1)

-- what holds of each element holds at each index
pub all-at-index : {A : Type 0} (P : A → Type 0) (xs : List A) (i : ℕ) (d : A) → i < length xs → All P xs → P (get_or xs i d)
all-at-index P [] i d l a = absurd (omega arith)
all-at-index P (x ∷ xs) zero d l a = a.0
all-at-index P (x ∷ xs) (suc i) d l a = all-at-index P xs i d (le_of_suc-le-suc l) a.1

-- and back
pub index-all : {A : Type 0} (P : A → Type 0) (xs : List A) (d : A) → ((i : ℕ) → i < length xs → P (get_or xs i d)) → All P xs
index-all P [] d h = tt
index-all P (x ∷ xs) d h = (h 0 (omega arith), index-all P xs d (λ i l. h (suc i) (suc-le-suc l)))

-- `map` of two lists in a row
pub map-append : {A B : Type 0} (f : A → B) (xs ys : List A) → map f (xs ++ ys) ≡ map f xs ++ map f ys
map-append f [] ys = refl
map-append f (x ∷ xs) ys = ap (λ l. f x ∷ l) (map-append f xs ys)

-- `joined` of two lists in a row
pub joined-append : {A B : Type 0} (f : A → List B) (xs ys : List A) → joined f (xs ++ ys) ≡ joined f xs ++ joined f ys
unfolding joined
joined-append f [] ys = refl
joined-append f (x ∷ xs) ys = rw (joined-append f xs ys) (sym (append_assoc (f x) (joined f xs) (joined f ys)))

-- the numbers below n: those below i, then i, then others
pub up_to-split : (n i : ℕ) → i < n → (rest : List ℕ) × (up_to n ≡ up_to i ++ i ∷ rest)
unfolding up_to
up_to-split zero i l = absurd (omega arith)
up_to-split (suc n) zero l = (map (λ (j : ℕ). suc j) (up_to n), refl)
up_to-split (suc n) (suc i) l =
    let r = up_to-split n i (le_of_suc-le-suc l) in (
      map (λ (j : ℕ). suc j) r.0,
      ap (λ t. zero ∷ t) (ap (map (λ (j : ℕ). suc j)) r.1 ∙ map-append (λ (j : ℕ). suc j) (up_to i) (i ∷ r.0)),
    )

-- the last of the numbers below n + 1 is n
pub up_to-snoc : (n : ℕ) → up_to (suc n) ≡ up_to n ++ n ∷ []
unfolding up_to
up_to-snoc zero = refl
up_to-snoc (suc n) = ap (λ t. zero ∷ t) (ap (map (λ (j : ℕ). suc j)) (up_to-snoc n) ∙ map-append (λ (j : ℕ). suc j) (up_to n) (n ∷ []))

-- joined over the numbers below n: over those below i, then at i, then others
pub joined-split : {B : Type 0} (f : ℕ → List B) (n i : ℕ) → i < n → (rest : List B) × (joined f (up_to n) ≡ joined f (up_to i) ++ (f i ++ rest))
unfolding joined
joined-split f n i l =
    let r = up_to-split n i l in
    (joined f r.0, ap (joined f) r.1 ∙ joined-append f (up_to i) (i ∷ r.0))

-- one number more
pub length-joined-snoc : {B : Type 0} (f : ℕ → List B) (n : ℕ) → length (joined f (up_to (suc n))) ≡ length (joined f (up_to n)) + length (f n)
unfolding joined
length-joined-snoc f n =
    ap (λ l. length (joined f l)) (up_to-snoc n) ∙ ap length (joined-append f (up_to n) (n ∷ [])) ∙ length-append (joined f (up_to n)) (f n ++ [])
    ∙ ap (λ t. length (joined f (up_to n)) + t) (length-append (f n) [] ∙ omega arith)

-- there are n numbers below n
pub length-up_to : (n : ℕ) → length (up_to n) ≡ n
unfolding up_to
length-up_to zero = refl
length-up_to (suc n) = ap suc (length-map (up_to n) (λ (i : ℕ). suc i) ∙ length-up_to n)

-- number i stands at place i
pub get_or-up_to : (n i d : ℕ) → i < n → get_or (up_to n) i d ≡ i
unfolding up_to
get_or-up_to zero i d l = absurd (omega arith)
get_or-up_to (suc n) zero d l = refl
get_or-up_to (suc n) (suc i) d l =
    get_or-map-below (λ (j : ℕ). suc j) (up_to n) i d 0 (rw (length-up_to n) (le_of_suc-le-suc l)) ∙ ap suc (get_or-up_to n i 0 (le_of_suc-le-suc l))

-- m lists of n elements each
pub length-joined-even : {B : Type 0} (f : ℕ → List B) (n m : ℕ) → ((o : ℕ) → length (f o) ≡ n) → length (joined f (up_to m)) ≡ m * n
unfolding joined up_to
length-joined-even f n zero h = omega arith
length-joined-even f n (suc m) h = length-joined-snoc f m ∙ rw (h m, length-joined-even f n m h) (omega arith)
