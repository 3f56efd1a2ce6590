-- Sums, to count with.
use Rattle.std.specs.Prelude.{ℕ, zero, suc, ◌+◌, ◌*◌, ◌≤◌, ◌<◌, ◌≡◌, ◌⊎◌}
use Rattle.std.proofs.Common.{not-suc-le-zero, le_of_suc-le-suc, suc-mul, zero-mul, eq-or-lt_of_le, arith, sym, subst, inl, inr, ⊎_elim}
use Rattle.std.proofs.Math.Decide.{dec_le}
use Rattle.std.proofs.Math.Logic.{by_cases}

-- f 0 + .. + f (n - 1)
unfoldable pub sum : ℕ → (ℕ → ℕ) → ℕ
sum zero f = zero
sum (suc n) f = sum n f + f n

-- larger numbers, larger sum
pub sum_mono : (n : ℕ) (u v : ℕ → ℕ) → ((i : ℕ) → u i ≤ v i) → sum n u ≤ sum n v
unfolding sum
sum_mono zero u v h = omega arith
sum_mono (suc n) u v h = omega (arith, sum_mono n u v h, h n)

-- n times the same number
pub sum-const : (n c : ℕ) → sum n (λ i. c) ≡ n * c
unfolding sum
sum-const zero c = sym (zero-mul c)
sum-const (suc n) c = omega (arith, sum-const n c, suc-mul n c)

-- numbers that are nowhere smaller: nowhere larger, or a larger sum
pub sum_grow : (n : ℕ) (u v : ℕ → ℕ) → ((i : ℕ) → u i ≤ v i) → ((i : ℕ) → i < n → v i ≤ u i) ⊎ (sum n u < sum n v)
unfolding sum
sum_grow zero u v h = inl (λ i l. absurd (not-suc-le-zero l))
sum_grow (suc n) u v h = ⊎_elim below (λ l. inr (omega (arith, h n))) (sum_grow n u v h)
  where
    all : ((i : ℕ) → i < n → v i ≤ u i) → v n ≤ u n → (i : ℕ) → i < suc n → v i ≤ u i
    all b hn i l = ⊎_elim (λ e. subst (λ (k : ℕ). v k ≤ u k) (sym e) hn) (λ lt. b i lt) (eq-or-lt_of_le (le_of_suc-le-suc l))

    below : ((i : ℕ) → i < n → v i ≤ u i) → ((i : ℕ) → i < suc n → v i ≤ u i) ⊎ (sum n u + u n < sum n v + v n)
    below b = by_cases (dec_le (v n) (u n)) (λ l. inl (all b l)) (λ nl. inr (omega (arith, sum_mono n u v h)))

-- the same over pairs
pub sum-grow-pairs : (n : ℕ) (u v : ℕ → ℕ → ℕ) → ((i j : ℕ) → u i j ≤ v i j) →
    ((i j : ℕ) → i < n → j < n → v i j ≤ u i j) ⊎ (sum n (λ i. sum n (u i)) < sum n (λ i. sum n (v i)))
sum-grow-pairs n u v h =
    ⊎_elim (λ outer. inl (λ i j li lj. inner i j (outer i li) lj)) (λ l. inr l)
    (sum_grow n (λ i. sum n (u i)) (λ i. sum n (v i)) (λ i. sum_mono n (u i) (v i) (h i)))
  where
    inner : (i j : ℕ) → sum n (v i) ≤ sum n (u i) → j < n → v i j ≤ u i j
    inner i j le lj = ⊎_elim (λ f. f j lj) (λ l. absurd (omega arith)) (sum_grow n (u i) (v i) (h i))
