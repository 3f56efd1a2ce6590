-- One bit of a number, and so sets of numbers below 16.
use Rattle.lists.specs.Proving.{arith, ℕ, refl, sym, ◌∙◌, ap, subst, inl, inr, List, length, get_or, set, length-set, get_or-set_same, get_or-set_other, ℕ_discrete}
use Rattle.std.specs.Prelude.{min, ◌*◌, ◌/◌, ◌%◌, ◌^◌, ◌<◌, ◌≡◌, ◌⊎◌}
use Rattle.std.proofs.Math.Nat.{div-eq_of_lt}
use Rattle.std.specs.Int.Bits.{bit_or, bit_and, and_step}
use Rattle.std.proofs.lemmas.Nat.{and_shr}
use Rattle.std.proofs.Common.{pow_pos, shl_exact}
use Rattle.lists.specs.laws.BitLaw.{or-bit, one-other}
use Rattle.lists.specs.laws.BitLaw as bit
use Rattle.cubes.specs.Sets.{Has, HasAll, Joined, Shared, Grows, Put}

and-odd : (a b : ℕ) → bit_and a b % 2 ≡ min (a % 2) (b % 2)
and-odd a b = omega (arith, and_step a b)

and-bit : (a b j : ℕ) → bit_and a b / 2 ^ j % 2 ≡ min (a / 2 ^ j % 2) (b / 2 ^ j % 2)
and-bit a b j = rw (and_shr a b j) (and-odd (a / 2 ^ j) (b / 2 ^ j))

-- the code's `1 << i` in w bits
pub one_shl : (w i : ℕ) → i < w → (1 * 2 ^ i) % 2 ^ w ≡ 2 ^ i
one_shl w i h = shl_exact 1 i w (omega arith) (omega arith) ∙ omega arith

-- the empty set has no members
pub nothing : (j : ℕ) → Has 0 j → ⊥
unfolding Has
nothing j h = omega (arith, div-eq_of_lt (pow_pos j))

-- a set of one has no others
pub alone : {set i j : ℕ} → set ≡ 2 ^ i → Has set j → j ≡ i
unfolding Has
alone {set} {i} {j} e h = go (ℕ_discrete j i)
  where
    go : Dec (j ≡ i) → j ≡ i
    go (yes y) = y
    go (no n) = let f = rw e at h in absurd (omega (arith, one-other i j n, f))

pub all-or : (a b : ℕ) → bit_or a b ≡ b → HasAll a b
unfolding Has
all-or a b e j h = let f = rw e at (or-bit a b j) in omega (arith, f)

pub shared-and : (a b : ℕ) → Shared a b (bit_and a b)
unfolding Has
shared-and a b = record {
  both = λ j g h. omega (arith, and-bit a b j);
  left = λ j h. omega (arith, and-bit a b j);
  right = λ j h. omega (arith, and-bit a b j);
}

pub union-or : (a b : ℕ) → Joined a b (bit_or a b)
unfolding Has
union-or a b = record {
  left = λ j h. omega (arith, or-bit a b j);
  right = λ j h. omega (arith, or-bit a b j);
  only = λ j h. go j h (ℕ_discrete (a / 2 ^ j % 2) 1);
}
  where
    go : (j : ℕ) → bit_or a b / 2 ^ j % 2 ≡ 1 → Dec (a / 2 ^ j % 2 ≡ 1) → (a / 2 ^ j % 2 ≡ 1) ⊎ (b / 2 ^ j % 2 ≡ 1)
    go j h (yes e) = inl e
    go j h (no n) = inr (omega (arith, or-bit a b j, n))

-- a set of one has it
pub one_same : (i : ℕ) → Has (2 ^ i) i
unfolding Has
one_same i = bit.one_same i

-- ---- tables of sets
pub put_one : {old : List ℕ} (at s e u : ℕ) → at < length old → e ≡ 2 ^ s → Joined (get_or old at 0) e u → Put old (set old at u) at s
put_one {old} at s e u l ee jo = record {
  grows = record { long = length-set old at u; more = λ j t. go j t (ℕ_discrete j at) };
  here = subst (λ (y : ℕ). Has y s) (sym same) (jo.right s (subst (λ (y : ℕ). Has y s) (sym ee) (one_same s)));
}
  where
    same : get_or (set old at u) at 0 ≡ u
    same = get_or-set_same old at u 0 l

    go : (j t : ℕ) → Dec (j ≡ at) → Has (get_or old j 0) t → Has (get_or (set old at u) j 0) t
    go j t (yes w) h = subst (λ (y : ℕ). Has y t) (sym (ap (λ (y : ℕ). get_or (set old at u) y 0) w ∙ same)) (jo.left t (subst (λ (y : ℕ). Has (get_or old y 0) t) w h))
    go j t (no d) h = subst (λ (y : ℕ). Has y t) (sym (get_or-set_other old at j u 0 d)) h

pub grows_none : {old : List ℕ} → Grows old old
grows_none = record { long = refl; more = λ j t h. h }

pub grows-more : {a b c : List ℕ} → Grows a b → Grows b c → Grows a c
grows-more f g = record { long = g.long ∙ f.long; more = λ j t h. g.more j t (f.more j t h) }
