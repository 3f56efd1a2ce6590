-- Laws of one bit of a number: of `bit_or`, and of 2 ^ i.
use Rattle.std.specs.Prelude.{ℕ, zero, suc, ◌/◌, ◌%◌, ◌^◌, max, ◌≡◌, refl}
use Rattle.std.proofs.Math.Nat.{div-eq_of_lt, mul-div-mul_right}
use Rattle.std.proofs.Common.{pow-suc, div-one, zero-lt-suc, arith, ap}
use Rattle.std.specs.Int.Bits.{bit_or, or_step}
use Rattle.std.proofs.lemmas.Nat.{or_shr}
use Rattle.std.proofs.Math.Pow.{pow-lt}

pub or-bit : (a b i : ℕ) → bit_or a b / 2 ^ i % 2 ≡ max (a / 2 ^ i % 2) (b / 2 ^ i % 2)
or-bit a b i = rw (or_shr a b i) (omega (arith, or_step (a / 2 ^ i) (b / 2 ^ i)))

pub one_same : (i : ℕ) → 2 ^ i / 2 ^ i % 2 ≡ 1
one_same zero = refl
one_same (suc i) = rw (pow-suc 2 i, mul-div-mul_right (2 ^ i) (2 ^ i) (zero-lt-suc 1)) (one_same i)

pub one-other : (i j : ℕ) → (j ≡ i → ⊥) → 2 ^ i / 2 ^ j % 2 ≡ 0
one-other zero zero h = absurd (h refl)
one-other zero (suc j) h = ap (λ (n : ℕ). n % 2) (div-eq_of_lt (pow-lt (zero-lt-suc j)))
one-other (suc i) zero h = rw (pow-suc 2 i, div-one) (omega arith)
one-other (suc i) (suc j) h = rw (pow-suc 2 i, pow-suc 2 j, mul-div-mul_right (2 ^ i) (2 ^ j) (zero-lt-suc 1)) (one-other i j (λ e. h (ap suc e)))
