-- A sheet with a rule at every pair has no more open pairs than faults.
use Rattle.std.specs.Prelude.{◌≡◌, ℕ, zero, suc, ◌+◌, ◌<◌, ◌≤◌, Bool, true, false, cond, ◌||◌, List, [], ◌∷◌, length, ◌==◌, nat_eq, nat_lt}
use native.Mathlib.Omega.{arith}
use Rattle.std.proofs.Math.Path.{refl}
use Rattle.std.proofs.Common.{ap, eqb-true}
use Rattle.std.proofs.Math.Option.{some}
use Rattle.sheet.specs.declared.Row.{Row}
use Rattle.lists.specs.Lists.{count}
use Rattle.sheet.specs.Sheet.{Sheet, is_at, rows_at, rule_at, choices_at, is_open, open_below, open_pairs}
use Rattle.lists.specs.laws.TestLaw.{never, both}

-- numbers below k that pass: no more than those that pass another test, if the one implies it; nor than those of two tests together
count-within : (p q : ℕ → Bool) (k : ℕ) → ((x : ℕ) → x < k → p x ≡ true → q x ≡ true) → count p k ≤ count q k
unfolding count
count-within p q zero h = omega arith
count-within p q (suc k) h = one (p k) refl (q k) refl (count-within p q k (λ x l. h x (omega arith)))
  where
    one : (a : Bool) → p k ≡ a → (b : Bool) → q k ≡ b → count p k ≤ count q k → cond a (suc (count p k)) (count p k) ≤ cond b (suc (count q k)) (count q k)
    one true e true f i = omega arith
    one true e false f i = never (cc (h k (omega arith) e))
    one false e true f i = omega arith
    one false e false f i = i

count-either : (p q : ℕ → Bool) (k : ℕ) → count (λ x. p x || q x) k ≤ count p k + count q k
unfolding count
count-either p q zero = omega arith
count-either p q (suc k) = one (p k) (q k) (count-either p q k)
  where
    one : (a b : Bool) → count (λ x. p x || q x) k ≤ count p k + count q k
        → cond (a || b) (suc (count (λ x. p x || q x) k)) (count (λ x. p x || q x) k) ≤ cond a (suc (count p k)) (count p k) + cond b (suc (count q k)) (count q k)
    one true true i = omega arith
    one true false i = omega arith
    one false true i = omega arith
    one false false i = i

-- a test that no number passes, and one that only one passes
count_none : (k : ℕ) → count (λ x. false) k ≡ 0
unfolding count
count_none zero = refl
count_none (suc k) = count_none k

module _ (p : ℕ → Bool) (b : ℕ) (only : (x : ℕ) → p x ≡ true → b ≡ x) where
  count-only : (k : ℕ) → (count p k ≤ 1) × (k ≤ b → count p k ≡ 0)
  unfolding count
  count-only zero = (omega arith, λ l. refl)
  count-only (suc k) = one (p k) refl (count-only k)
    where
      one : (a : Bool) → p k ≡ a → (count p k ≤ 1) × (k ≤ b → count p k ≡ 0)
          → (cond a (suc (count p k)) (count p k) ≤ 1) × (suc k ≤ b → cond a (suc (count p k)) (count p k) ≡ 0)
      one true e i = let here = only k e in let none = i.1 (omega arith) in (omega arith, λ l. absurd (omega arith))
      one false e i = (i.0, λ l. i.1 (omega arith))

-- the pairs of the states below n and the inputs below k that pass
abbrev pairs : (ℕ → ℕ → Bool) → ℕ → ℕ → ℕ
pairs p k zero = 0
pairs p k (suc s) = pairs p k s + count (p s) k

pairs-either : (p q : ℕ → ℕ → Bool) (k n : ℕ) → pairs (λ s x. p s x || q s x) k n ≤ pairs p k n + pairs q k n
pairs-either p q k zero = omega arith
pairs-either p q k (suc s) = omega (arith, pairs-either p q k s, count-either (p s) (q s) k)

module _ (r : Row) (k : ℕ) where
  -- a row is at one pair
  pairs-row : (n : ℕ) → (pairs (is_at r) k n ≤ 1) × (n ≤ r.source → pairs (is_at r) k n ≡ 0)
  pairs-row zero = (omega arith, λ l. refl)
  pairs-row (suc s) = one (r.source == s) refl (pairs-row s)
    where
      at-input : (x : ℕ) → is_at r s x ≡ true → r.input ≡ x
      at-input x e = eqb-true _ _ (both (r.source == s) (r.input == x) e).1

      none : nat_eq r.source s ≡ false → count (is_at r s) k ≡ 0
      none e = omega (arith, count-within (is_at r s) (λ x. false) k (λ x l h. never (cc (both (r.source == s) (r.input == x) h).0)), count_none k)

      one : (b : Bool) → (r.source == s) ≡ b → (pairs (is_at r) k s ≤ 1) × (s ≤ r.source → pairs (is_at r) k s ≡ 0)
          → (pairs (is_at r) k s + count (is_at r s) k ≤ 1) × (suc s ≤ r.source → pairs (is_at r) k s + count (is_at r s) k ≡ 0)
      one true e i =
          let here = eqb-true r.source s e in
          (omega (arith, i.1 (omega arith), (count-only (is_at r s) r.input at-input k).0), λ l. absurd (omega arith))
      one false e i = (omega (arith, i.0, none e), λ l. omega (arith, i.1 (omega arith), none e))

-- there are rows at a pair
abbrev is_some : List Row → Bool
is_some [] = false
is_some (r ∷ l) = true

abbrev some_at : List Row → ℕ → ℕ → Bool
some_at l s x = is_some (rows_at l s x)

two-choices : (l : List Row) → nat_lt 1 (suc (length l)) ≡ true → is_some l ≡ true
two-choices [] e = e
two-choices (r ∷ l) e = refl

some_or : (r : Row) (l : List Row) (s x : ℕ) → some_at (r ∷ l) s x ≡ is_at r s x || some_at l s x
unfolding rows_at
some_or r l s x = one (is_at r s x)
  where
    one : (b : Bool) → is_some (cond b (r ∷ rows_at l s x) (rows_at l s x)) ≡ b || is_some (rows_at l s x)
    one true = refl
    one false = refl

pairs-rows : (l : List Row) (k n : ℕ) → pairs (some_at l) k n ≤ length l
unfolding rows_at
pairs-rows [] k n = none n
  where
    none : (n : ℕ) → pairs (λ s x. false) k n ≤ 0
    none zero = omega arith
    none (suc s) = omega (arith, none s, count_none k)
pairs-rows (r ∷ l) k n =
    let e : some_at (r ∷ l) ≡ (λ s x. is_at r s x || some_at l s x) = λ i s x. some_or r l s x i in
    omega (arith, ap (λ (p : ℕ → ℕ → Bool). pairs p k n) e, pairs-either (is_at r) (some_at l) k n, (pairs-row r k n).0, pairs-rows l k n)

module _ (sh : Sheet) (ruled : (s x : ℕ) → s < sh.size.states → x < sh.size.inputs → (r : Row) × (rule_at sh.rules s x ≡ some r)) where
  below : (n : ℕ) → n ≤ sh.size.states → open_below sh n ≤ pairs (some_at sh.faults) sh.size.inputs n
  unfolding open_below is_open choices_at
  below zero l = omega arith
  below (suc s) l =
      omega (arith, below s (omega arith), count-within (is_open sh s) (some_at sh.faults s) sh.size.inputs (λ x k e. two-choices (rows_at sh.faults s x) (rw (ruled s x l k).1 at e)))

  pub few-open : open_pairs sh ≤ length sh.faults
  unfolding open_pairs
  few-open = omega (arith, below sh.size.states (omega arith), pairs-rows sh.faults sh.size.inputs sh.size.states)
