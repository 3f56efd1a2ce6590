-- One bit of a number, and so sets as numbers: a bit more, and how many bits are set.
use Rattle.std.specs.Prelude.{ℕ, zero, suc, ◌+◌, ◌/◌, ◌%◌, ◌^◌, ◌<◌, ◌≡◌, refl, Bool, true, false, cond, ◌⊎◌, eqb}
use Rattle.std.proofs.Math.Nat.{div-eq_of_lt}
use Rattle.std.proofs.Common.{div-one, arith, sym, ◌∙◌, ap, inl, inr, eqb-true, eq-eqb, pow_pos, shr_lt, shr-shr}
use Rattle.std.proofs.Math.Decide.{ℕ_discrete}
use Rattle.std.proofs.Math.Option.{Option, none, some}
use Rattle.std.specs.Int.Bits.{bit_or}
use Rattle.std.proofs.lemmas.Nat.{or_lt}
use Rattle.std.specs.Int.Count.{ones, ones_step}
use Rattle.std.proofs.Math.Pow.{pow-lt}
use Rattle.lists.specs.Lists.{count}
use Rattle.lists.specs.laws.BitLaw.{or-bit, one_same, one-other}
use Rattle.model.specs.Used.{has, mark}

-- the empty set has nothing
pub has-nothing : (i : ℕ) → has 0 i ≡ true → ⊥
unfolding has
has-nothing i h = omega (arith, div-eq_of_lt (pow_pos i), eqb-true (0 / 2 ^ i % 2) 1 h)

-- a marked slot is in the set, and so is what was there
pub mark-keeps : (set : ℕ) (u : Option ℕ) (i : ℕ) → has set i ≡ true → has (mark set u) i ≡ true
unfolding has
mark-keeps set none i h = h
mark-keeps set (some j) i h = eq-eqb (bit_or set (2 ^ j) / 2 ^ i % 2) 1 (omega (arith, or-bit set (2 ^ j) i, eqb-true (set / 2 ^ i % 2) 1 h))

pub mark-has : (set i : ℕ) → has (mark set (some i)) i ≡ true
unfolding has
mark-has set i = eq-eqb (bit_or set (2 ^ i) / 2 ^ i % 2) 1 (omega (arith, or-bit set (2 ^ i) i, one_same i))

-- and nothing else is
pub has-mark : (set : ℕ) (u : Option ℕ) (i : ℕ) → has (mark set u) i ≡ true → (has set i ≡ true) ⊎ (u ≡ some i)
unfolding has
has-mark set none i h = inl h
has-mark set (some j) i h = go (ℕ_discrete i j)
  where
    go : Dec (i ≡ j) → (eqb (set / 2 ^ i % 2) 1 ≡ true) ⊎ (some j ≡ some i)
    go (yes e) = inr (ap (λ (k : ℕ). some k) (sym e))
    go (no n) =
        inl (eq-eqb (set / 2 ^ i % 2) 1
        (omega (arith, or-bit set (2 ^ j) i, one-other j i n, eqb-true (bit_or set (2 ^ j) / 2 ^ i % 2) 1 h)))

-- a set of slots below n is a number below 2 ^ n
pub mark-low : (n set : ℕ) (u : Option ℕ) → ((i : ℕ) → u ≡ some i → i < n) → set < 2 ^ n → mark set u < 2 ^ n
mark-low n set none h l = l
mark-low n set (some i) h l = or_lt n set (2 ^ i) l (pow-lt (h i refl))

-- ---- how many

-- the first is counted apart
count-first : (p : ℕ → Bool) (n : ℕ) → count p (suc n) ≡ cond (p 0) 1 0 + count (λ i. p (suc i)) n
unfolding count
count-first p zero = omega arith
count-first p (suc n) = rw (count-first p n) (go (p (suc n)))
  where
    go : (c : Bool) → cond c (suc (cond (p 0) 1 0 + count (λ i. p (suc i)) n)) (cond (p 0) 1 0 + count (λ i. p (suc i)) n)
        ≡ cond (p 0) 1 0 + cond c (suc (count (λ i. p (suc i)) n)) (count (λ i. p (suc i)) n)
    go true = omega arith
    go false = refl

count_same : (p q : ℕ → Bool) → ((i : ℕ) → p i ≡ q i) → (n : ℕ) → count p n ≡ count q n
unfolding count
count_same p q h zero = refl
count_same p q h (suc n) = rw (h n, count_same p q h n) refl

lowest : (set : ℕ) → set % 2 ≡ cond (has set 0) 1 0
unfolding has
lowest set = rw (div-one set) (go (set % 2) (omega arith))
  where
    go : (d : ℕ) → d < 2 → d ≡ cond (eqb d 1) 1 0
    go zero l = refl
    go (suc zero) l = refl
    go (suc (suc d)) l = absurd (omega arith)

half : (set i : ℕ) → has (set / 2) i ≡ has set (suc i)
unfolding has
half set i = let e : 1 + i ≡ suc i = omega arith in ap (λ (v : ℕ). eqb (v % 2) 1) (rw e at (shr-shr set 1 i))

-- the count of ones of a set of slots below n is how many of them it has
pub ones-count : (n set : ℕ) → set < 2 ^ n → ones set ≡ count (has set) n
unfolding count ones
ones-count zero set l = let z : set ≡ 0 = omega arith in rw z refl
ones-count (suc n) set l =
    let e : n + 1 ≡ suc n = omega arith in
    ones_step set ∙ rw (lowest set, ones-count n (set / 2) (shr_lt n 1 (rw e l)), count-first (has set) n)
    (ap (λ (k : ℕ). cond (has set 0) 1 0 + k) (count_same (has (set / 2)) (λ i. has set (suc i)) (half set) n))
