-- The refusals for a mutant and for inputs: what the lowest index means.
use Rattle.std.specs.Prelude.{ℕ, zero, suc, ◌<◌, ◌≤◌, ◌≡◌, Bool, true, false, cond, List, [], ◌∷◌, ltb, length, get_or}
use Rattle.std.proofs.Common.{suc-le-suc, le_of_suc-le-suc, arith, ap, ltb-true, ltb-false, lt-ltb, le-ltb, eq-eqb, ne_eqb}
use Rattle.std.proofs.Math.Path.{refl}
use Rattle.std.proofs.Math.Option.{Option, none, some}
use Rattle.sheet.specs.Sheet.{Sheet}
use Rattle.sheet.specs.Reading.{Result, refused}
use Rattle.lists.specs.laws.TestLaw.{never}
use Rattle.model.specs.Mutant.{slots, later, InRange, IsMutant}
use Rattle.model.specs.Operations.{first_high, first_over, with_mutant}

-- in range: as long as the list of numbers
pub in-range-length : (cs b : List ℕ) → InRange cs b → length b ≡ length cs
unfolding InRange
in-range-length [] [] r = refl
in-range-length [] (i ∷ b) r = absurd r
in-range-length (c ∷ cs) [] r = absurd r
in-range-length (c ∷ cs) (i ∷ b) r = ap suc (in-range-length cs b r.1)

-- and each choice below its number
pub in-range-at : (cs b : List ℕ) → InRange cs b → (j : ℕ) → j < length b → get_or b j 0 < get_or cs j 0
unfolding InRange
in-range-at cs [] r j l = absurd (omega arith)
in-range-at [] (i ∷ b) r j l = absurd r
in-range-at (c ∷ cs) (i ∷ b) r zero l = r.0
in-range-at (c ∷ cs) (i ∷ b) r (suc j) l = in-range-at cs b r.1 j (le_of_suc-le-suc l)

-- these two are all of it
pub in-range : (cs b : List ℕ) → length b ≡ length cs → ((j : ℕ) → j < length b → get_or b j 0 < get_or cs j 0) → InRange cs b
unfolding InRange
in-range [] [] e h = tt
in-range [] (i ∷ b) e h = absurd (omega arith)
in-range (c ∷ cs) [] e h = absurd (omega arith)
in-range (c ∷ cs) (i ∷ b) e h = (h 0 (omega arith), in-range cs b (omega arith) (λ j l. h (suc j) (suc-le-suc l)))

-- the choice i is too high, and each before it is below its number
pub record FirstHigh (cs b : List ℕ) (i : ℕ) : Type 0 where
  pub is : i < length b
  pub slot : i < length cs
  pub high : get_or cs i 0 ≤ get_or b i 0
  pub low : (j : ℕ) → j < i → get_or b j 0 < get_or cs j 0

-- the lowest index of a choice that is too high
pub high-first : (cs b : List ℕ) (i : ℕ) → first_high cs b ≡ some i → FirstHigh cs b i
unfolding first_high
high-first [] b i e = never (cc)
high-first (c ∷ cs) [] i e = never (cc)
high-first (c ∷ cs) (a ∷ b) i e = go (ltb a c) refl (first_high cs b) (λ j. high-first cs b j) e
  where
    then : (k : ℕ) → a < c → ((j : ℕ) → j < k → get_or b j 0 < get_or cs j 0) → (j : ℕ) → j < suc k → get_or (a ∷ b) j 0 < get_or (c ∷ cs) j 0
    then k la h zero l = la
    then k la h (suc j) l = h j (le_of_suc-le-suc l)

    go : (t : Bool) → ltb a c ≡ t → (o : Option ℕ) → ((j : ℕ) → o ≡ some j → FirstHigh cs b j) → cond t (later o) (some zero) ≡ some i →
        FirstHigh (c ∷ cs) (a ∷ b) i
    go true et none ih h = never (cc)
    go true et (some j) ih h =
        let z : suc j ≡ i = cc in
        let f = ih j refl in
        rw (← z) (record { is = suc-le-suc f.is; slot = suc-le-suc f.slot; high = f.high; low = then j (ltb-true a c et) f.low })
    go false et o ih h =
        let z : zero ≡ i = cc in
        rw (← z) (record { is = omega arith; slot = omega arith; high = ltb-false a c et; low = λ j l. absurd (omega arith) })

-- only the lowest such index is the answer
pub first-high : (cs b : List ℕ) (i : ℕ) → FirstHigh cs b i → first_high cs b ≡ some i
unfolding first_high
first-high [] b i f = absurd (omega (arith, f.slot))
first-high (c ∷ cs) [] i f = absurd (omega (arith, f.is))
first-high (c ∷ cs) (a ∷ b) zero f = rw (le-ltb a c f.high) refl
first-high (c ∷ cs) (a ∷ b) (suc i) f =
    rw (
      lt-ltb a c (f.low 0 (omega arith)),
      first-high cs b i
          (record {
            is = le_of_suc-le-suc f.is;
            slot = le_of_suc-le-suc f.slot;
            high = f.high;
            low = λ j l. f.low (suc j) (suc-le-suc l);
          }),
    )
    refl

-- no choice is too high: each is below its number
pub high-none : (cs b : List ℕ) → length b ≡ length cs → first_high cs b ≡ none → InRange cs b
unfolding first_high InRange
high-none [] [] e h = tt
high-none [] (a ∷ b) e h = absurd (omega arith)
high-none (c ∷ cs) [] e h = absurd (omega arith)
high-none (c ∷ cs) (a ∷ b) e h = go (ltb a c) refl (first_high cs b) (high-none cs b (omega arith)) h
  where
    go : (t : Bool) → ltb a c ≡ t → (o : Option ℕ) → (o ≡ none → InRange cs b) → cond t (later o) (some zero) ≡ none → (a < c) × InRange cs b
    go true et none ih h' = (ltb-true a c et, ih refl)
    go true et (some j) ih h' = never (cc)
    go false et o ih h' = never (cc)

-- each choice is below its number: none is too high
pub none-high : (cs b : List ℕ) → InRange cs b → first_high cs b ≡ none
unfolding first_high InRange
none-high [] b r = refl
none-high (c ∷ cs) [] r = refl
none-high (c ∷ cs) (a ∷ b) r = rw (lt-ltb a c r.0, none-high cs b r.1) refl

-- the input i is not below k, and each before it is
pub record FirstOver (k : ℕ) (xs : List ℕ) (i : ℕ) : Type 0 where
  pub is : i < length xs
  pub over : k ≤ get_or xs i 0
  pub below : (j : ℕ) → j < i → get_or xs j 0 < k

-- the lowest index of an input that is not below k
pub over_first : (k : ℕ) (xs : List ℕ) (i : ℕ) → first_over k xs ≡ some i → FirstOver k xs i
unfolding first_over
over_first k [] i e = never (cc)
over_first k (x ∷ xs) i e = go (ltb x k) refl (first_over k xs) (λ j. over_first k xs j) e
  where
    then : (n : ℕ) → x < k → ((j : ℕ) → j < n → get_or xs j 0 < k) → (j : ℕ) → j < suc n → get_or (x ∷ xs) j 0 < k
    then n lx h zero l = lx
    then n lx h (suc j) l = h j (le_of_suc-le-suc l)

    go : (t : Bool) → ltb x k ≡ t → (o : Option ℕ) → ((j : ℕ) → o ≡ some j → FirstOver k xs j) → cond t (later o) (some zero) ≡ some i →
        FirstOver k (x ∷ xs) i
    go true et none ih h = never (cc)
    go true et (some j) ih h =
        let z : suc j ≡ i = cc in
        let f = ih j refl in
        rw (← z) (record { is = suc-le-suc f.is; over = f.over; below = then j (ltb-true x k et) f.below })
    go false et o ih h =
        let z : zero ≡ i = cc in
        rw (← z) (record { is = omega arith; over = ltb-false x k et; below = λ j l. absurd (omega arith) })

-- only the lowest such index is the answer
pub first-over : (k : ℕ) (xs : List ℕ) (i : ℕ) → FirstOver k xs i → first_over k xs ≡ some i
unfolding first_over
first-over k [] i f = absurd (omega (arith, f.is))
first-over k (x ∷ xs) zero f = rw (le-ltb x k f.over) refl
first-over k (x ∷ xs) (suc i) f =
    rw (
      lt-ltb x k (f.below 0 (omega arith)),
      first-over k xs i (record { is = le_of_suc-le-suc f.is; over = f.over; below = λ j l. f.below (suc j) (suc-le-suc l) }),
    )
    refl

-- no input is over: each is below k
pub over_none : (k : ℕ) (xs : List ℕ) → first_over k xs ≡ none → (j : ℕ) → j < length xs → get_or xs j 0 < k
unfolding first_over
over_none k [] e j l = absurd (omega arith)
over_none k (x ∷ xs) e j l = go (ltb x k) refl (first_over k xs) (over_none k xs) e j l
  where
    go : (t : Bool) → ltb x k ≡ t → (o : Option ℕ) → (o ≡ none → (i : ℕ) → i < length xs → get_or xs i 0 < k) →
        cond t (later o) (some zero) ≡ none → (i : ℕ) → i < suc (length xs) → get_or (x ∷ xs) i 0 < k
    go true et none ih h zero m = ltb-true x k et
    go true et none ih h (suc i) m = ih refl i (le_of_suc-le-suc m)
    go true et (some n) ih h i m = never (cc)
    go false et o ih h i m = never (cc)

-- each input is below k: none is over
pub none_over : (k : ℕ) (xs : List ℕ) → ((j : ℕ) → j < length xs → get_or xs j 0 < k) → first_over k xs ≡ none
unfolding first_over
none_over k [] h = refl
none_over k (x ∷ xs) h = rw (lt-ltb x k (h 0 (omega arith)), none_over k xs (λ j l. h (suc j) (suc-le-suc l))) refl

module _ (sh : Sheet) (b : List ℕ) where
  -- a mutant has one byte for each suspect
  pub mutant-length : IsMutant sh b → length b ≡ length (slots sh)
  unfolding IsMutant
  mutant-length r = in-range-length (slots sh) b r

  -- and no choice too high
  pub mutant-high : IsMutant sh b → first_high (slots sh) b ≡ none
  unfolding IsMutant
  mutant-high r = none-high (slots sh) b r

  -- these two make a mutant
  pub is-mutant : length b ≡ length (slots sh) → first_high (slots sh) b ≡ none → IsMutant sh b
  unfolding IsMutant
  is-mutant e h = high-none (slots sh) b e h

  module _ {A : Type 0} (r : Result A) where
    -- an operation on a mutant goes on
    pub mutant-goes-on : IsMutant sh b → with_mutant sh b r ≡ r
    unfolding with_mutant
    mutant-goes-on m = rw (eq-eqb (length b) (length (slots sh)) (mutant-length m), mutant-high m) refl

    -- 13 at 0 for another length
    pub other_length : (length b ≡ length (slots sh) → ⊥) → with_mutant sh b r ≡ refused 13 0
    unfolding with_mutant
    other_length ne = rw (ne_eqb (length b) (length (slots sh)) ne) refl

    -- 14 at the lowest choice that is too high
    pub choice-too-high : (i : ℕ) → length b ≡ length (slots sh) → FirstHigh (slots sh) b i → with_mutant sh b r ≡ refused 14 i
    unfolding with_mutant
    choice-too-high i e f = rw (eq-eqb (length b) (length (slots sh)) e, first-high (slots sh) b i f) refl
