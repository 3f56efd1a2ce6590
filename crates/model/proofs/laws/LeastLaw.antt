-- Laws of `least`.
use Rattle.std.specs.Prelude.{ℕ, zero, suc, ◌≤◌, ◌<◌, ◌≡◌, refl, Bool, true, false, cond}
use Rattle.std.proofs.Common.{zero-le, suc-le-suc, not-suc-le-zero, le_of_suc-le-suc, arith}
use Rattle.std.proofs.Math.Logic.{by_cases}
use Rattle.std.proofs.Math.Decide.{dec_lt}
use Rattle.model.specs.Compare.{least}
use Rattle.lists.specs.laws.TestLaw.{clash}

-- at most n
pub least-le : (n : ℕ) (g : ℕ → Bool) → least n g ≤ n
unfolding least
least-le zero g = zero-le
least-le (suc n) g = go (g zero) (least-le n (λ i. g (suc i)))
  where
    go : (b : Bool) → least n (λ i. g (suc i)) ≤ n → cond b zero (suc (least n (λ i. g (suc i)))) ≤ suc n
    go true h = zero-le
    go false h = suc-le-suc h

-- what it finds passes
pub least-true : (n : ℕ) (g : ℕ → Bool) → least n g < n → g (least n g) ≡ true
unfolding least
least-true zero g h = absurd (not-suc-le-zero h)
least-true (suc n) g h = go (g zero) refl (least-true n (λ i. g (suc i))) h
  where
    go : (b : Bool) → g zero ≡ b → (least n (λ i. g (suc i)) < n → g (suc (least n (λ i. g (suc i)))) ≡ true) →
        cond b zero (suc (least n (λ i. g (suc i)))) < suc n → g (cond b zero (suc (least n (λ i. g (suc i))))) ≡ true
    go true e ih l = e
    go false e ih l = ih (le_of_suc-le-suc l)

-- nothing below it passes
pub least-false : (n : ℕ) (g : ℕ → Bool) (i : ℕ) → i < least n g → g i ≡ false
unfolding least
least-false zero g i h = absurd (not-suc-le-zero h)
least-false (suc n) g i h = go i (g zero) refl (least-false n (λ i. g (suc i))) h
  where
    go : (i : ℕ) (b : Bool) → g zero ≡ b → ((i : ℕ) → i < least n (λ i. g (suc i)) → g (suc i) ≡ false) →
        i < cond b zero (suc (least n (λ i. g (suc i)))) → g i ≡ false
    go i true e ih l = absurd (not-suc-le-zero l)
    go zero false e ih l = e
    go (suc i) false e ih l = ih i (le_of_suc-le-suc l)

-- a number that passes is not below the least
pub least_at : (n : ℕ) (g : ℕ → Bool) (i : ℕ) → g i ≡ true → least n g ≤ i
least_at n g i h = by_cases (dec_lt i (least n g)) (λ l. clash (g i) h (least-false n g i l)) (λ nl. omega arith)

-- what is at most n, passes if it is below n, and has nothing below it that passes, is the least
pub least-unique : (n : ℕ) (g : ℕ → Bool) (r : ℕ) → r ≤ n → ((i : ℕ) → i < r → g i ≡ false) → (r < n → g r ≡ true) → least n g ≡ r
least-unique n g r le before here =
    by_cases (dec_lt (least n g) r)
    (λ l. clash (g (least n g)) (least-true n g (omega arith)) (before (least n g) l))
    (λ nl. by_cases (dec_lt r (least n g))
    (λ l. clash (g r) (here (omega (arith, least-le n g))) (least-false n g r l))
    (λ nr. omega arith))
