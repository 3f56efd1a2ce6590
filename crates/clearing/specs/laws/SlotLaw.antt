-- Sets of slots, as the bits of a number.
use Rattle.std.specs.Prelude.{◌≡◌, ℕ, suc, ◌+◌, ◌-◌, ◌*◌, ◌/◌, ◌%◌, ◌<◌, ◌≤◌, ◌^◌}
use Rattle.std.proofs.Common.{◌∙◌, subst, arith, pow_pos, pow_mono, shr_lt}
use Rattle.std.proofs.Math.Logic.{by_cases}
use Rattle.std.proofs.Math.Nat.{div-eq_of_lt}
use Rattle.std.proofs.Math.Decide.{dec_lt}
use Rattle.std.specs.Int.Count.{count_leading_zeros}
use Rattle.std.proofs.lemmas.Nat.{leading_top, shl-shr}
use Rattle.std.proofs.Math.Pow.{shr_mono, field, mod-mod-pow}
use Rattle.cubes.specs.Sets.{Has}
use Rattle.clearing.specs.Sweep.{Top}

-- the highest slot is a member
pub top-has : {a j : ℕ} → Top a j → Has a j
unfolding Has
top-has {a} {j} t =
    let few : a / 2 ^ j < 2 ^ 1 = shr_lt 1 j (subst (λ (k : ℕ). a < 2 ^ k) (omega arith) t.most) in
    let some : 1 * 2 ^ j / 2 ^ j ≤ a / 2 ^ j = shr_mono j (omega (arith, t.least)) in
    omega (arith, few, some, shl-shr 1 j)

-- no member of a set below 2 ^ j is j or more
pub has-below : (a j i : ℕ) → a < 2 ^ j → Has a i → i < j
unfolding Has
has-below a j i l h =
    by_cases (dec_lt i j) (λ k. k)
    (λ n. absurd (let z : a / 2 ^ i ≡ 0 = div-eq_of_lt (omega (arith, l, pow_mono {i = j} {j = i} (omega arith))) in omega (arith, h, z)))

-- a set whose members are all below j is a number below 2 ^ j
pub below-has : (a j : ℕ) → a < 2 ^ 32 → ((i : ℕ) → Has a i → i < j) → a < 2 ^ j
below-has a j l h = by_cases (dec_lt 0 a) some (λ n. omega (arith, n, pow_pos j))
  where
    some : 0 < a → a < 2 ^ j
    some p =
        let t = leading_top 32 a p l in
        let top : Top a t.0 = record { low = omega (arith, t.1); least = t.2; most = subst (λ (k : ℕ). a < 2 ^ k) (omega arith) t.3 } in
        let k : t.0 < j = h t.0 (top-has top) in
        omega (arith, t.3, pow_mono {i = suc t.0} {j = j} (omega (arith, k)))

-- the members before j
pub before-has : (a j i : ℕ) → i < j → Has a i → Has (a % 2 ^ j) i
unfolding Has
before-has a j i l h = before_same a j i l ∙ h
  where
    before_same : (a j i : ℕ) → i < j → a % 2 ^ j / 2 ^ i % 2 ≡ a / 2 ^ i % 2
    before_same a j i l =
        let k = j - i - 1 in
        let e : j ≡ (k + 1) + i = omega arith in
        rw (e, field a (k + 1) i) (mod-mod-pow (a / 2 ^ i) k 1)

-- the zeros before the highest member
pub leading-is : (a : ℕ) → 0 < a → a < 2 ^ 32 → (count_leading_zeros 32 a ≤ 31) × Top a (31 - count_leading_zeros 32 a)
leading-is a p l =
    let t = leading_top 32 a p l in
    let e : t.0 ≡ 31 - count_leading_zeros 32 a = omega (arith, t.1) in
    (omega (arith, t.1), subst (Top a) e (record { low = omega (arith, t.1); least = t.2; most = subst (λ (k : ℕ). a < 2 ^ k) (omega arith) t.3 }))

pub top_one : {a j k : ℕ} → Top a j → Top a k → j ≡ k
top_one {a} {j} {k} s t = omega (arith, has-below a (j + 1) k s.most (top-has t), has-below a (k + 1) j t.most (top-has s))
