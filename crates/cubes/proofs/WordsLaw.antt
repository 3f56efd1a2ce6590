-- Bits of a difference, and of a number without its least bit; sets of a room.
use Rattle.std.specs.Prelude.{◌-◌, ◌*◌, ◌/◌, ◌%◌, ◌^◌, ◌<◌, ◌≤◌, ◌≡◌, true, false, Bool, eqb, leb}
use Rattle.lists.specs.Proving.{arith, ℕ, zero, suc, refl, sym, ◌∙◌, ap, subst, ℕ_discrete, eqb-true, eqb-false}
use borrow.Author.Tests.{leb-true, leb-false}
use Rattle.std.proofs.Common.{min, le_of_suc-le-suc, shr-shr}
use lib.Bits.{bit_and, bit_xor, differ, and_step, xor_step, and_shr, xor_shr, and_self}
use Rattle.cubes.specs.Sets.{Has, HasAll, NoneBelow, Joined, Without, Later}
use Rattle.std.specs.Int.Bits.{bit_or}
use Rattle.std.proofs.lemmas.Nat.{and_le_l, or_lt, xor_lt, pow_below}
use Rattle.std.proofs.lemmas.Nat.Bits.{bit_at-trailing_zeros, bit_at_above}
use Rattle.std.specs.Int.{trailing_zeros, bit_at, w32}
use Rattle.std.proofs.Common.{mod-eq_of_lt}
use Rattle.cubes.specs.laws.SetLaw.{shared-and, union-or, all-or, one_shl}

-- ---- a difference
less-odd : (a b : ℕ) → bit_xor a (bit_and a b) % 2 ≡ a % 2 - b % 2
less-odd a b =
    let both : bit_and a b % 2 ≡ min (a % 2) (b % 2) = omega (arith, and_step a b) in
    let e = rw both at (xor_step a (bit_and a b)) in
    omega (arith, e, left (a % 2) (b % 2) (omega arith) (omega arith))
  where
    left : (x y : ℕ) → x < 2 → y < 2 → differ x (min x y) ≡ x - y
    left zero zero h l = refl
    left zero (suc zero) h l = refl
    left (suc zero) zero h l = refl
    left (suc zero) (suc zero) h l = refl
    left zero (suc (suc y)) h l = absurd (omega arith)
    left (suc zero) (suc (suc y)) h l = absurd (omega arith)
    left (suc (suc x)) y h l = absurd (omega arith)

less-bit : (a b j : ℕ) → bit_xor a (bit_and a b) / 2 ^ j % 2 ≡ a / 2 ^ j % 2 - b / 2 ^ j % 2
less-bit a b j = rw (xor_shr a (bit_and a b) j, and_shr a b j) (less-odd (a / 2 ^ j) (b / 2 ^ j))

pub without : (a b : ℕ) → Without a b (bit_xor a (bit_and a b))
unfolding Has
without a b = record {
  left = λ j h. omega (arith, less-bit a b j);
  apart = λ j h g. omega (arith, less-bit a b j);
  all = λ j h g. omega (arith, less-bit a b j, g);
}

-- ---- a number without its least bit
later : ℕ → ℕ
later n = bit_and n (n - 1)

half : (a b : ℕ) → bit_and a b / 2 ≡ bit_and (a / 2) (b / 2)
half a b = omega (arith, and_step a b)

later-odd : (n : ℕ) → n % 2 ≡ 1 → later n / 2 ≡ n / 2
unfolding later
later-odd n o = half n (n - 1) ∙ ap (bit_and (n / 2)) (omega arith) ∙ and_self (n / 2)

later-even : (n : ℕ) → n % 2 ≡ 0 → later n / 2 ≡ later (n / 2)
unfolding later
later-even n o = half n (n - 1) ∙ ap (bit_and (n / 2)) (omega arith)

-- bit 0, and bit j + 1, which is bit j of the half
low : (n : ℕ) → n % 2 ≡ 1 → Has n 0
unfolding Has
low n o = omega (arith, o)

odd : (n : ℕ) → Has n 0 → n % 2 ≡ 1
unfolding Has
odd n h = omega (arith, h)

shift : (n j : ℕ) → n / 2 ^ suc j ≡ n / 2 / 2 ^ j
shift n j = ap (λ (k : ℕ). n / 2 ^ k) (omega arith) ∙ sym (shr-shr n 1 j)

up : (n j : ℕ) → Has (n / 2) j → Has n (suc j)
unfolding Has
up n j h = rw (shift n j) h

down : (n j : ℕ) → Has n (suc j) → Has (n / 2) j
unfolding Has
down n j h = rw (shift n j) at h

later-low : (n : ℕ) → Has (later n) 0 → ⊥
unfolding Has later
later-low n h = omega (arith, h, and_step n (n - 1))

-- of an even number, bit j + 1
later-up : (n j : ℕ) → n % 2 ≡ 0 → Has (later (n / 2)) j → Has (later n) (suc j)
later-up n j e h = up (later n) j (subst (λ (m : ℕ). Has m j) (sym (later-even n e)) h)

later-down : (n j : ℕ) → n % 2 ≡ 0 → Has (later n) (suc j) → Has (later (n / 2)) j
later-down n j e h = subst (λ (m : ℕ). Has m j) (later-even n e) (down (later n) j h)

all : (i j n : ℕ) → i < j → Has n i → Has n j → Has (later n) j
all i zero n l h g = absurd (omega arith)
all zero (suc j) n l h g = up (later n) j (subst (λ (m : ℕ). Has m j) (sym (later-odd n (odd n h))) (down n j g))
all (suc i) (suc j) n l h g = go (λ u. all i j (n / 2) (le_of_suc-le-suc l) (down n i h) (down n j g)) (ℕ_discrete (n % 2) 1)
  where
    go : (Unit {0} → Has (later (n / 2)) j) → Dec (n % 2 ≡ 1) → Has (later n) (suc j)
    go f (yes o) = up (later n) j (subst (λ (m : ℕ). Has m j) (sym (later-odd n o)) (down n j g))
    go f (no e) = later-up n j (omega (arith, e)) (f tt)

apart : (j n : ℕ) → ((i : ℕ) → i < j → Has n i → ⊥) → Has (later n) j → ⊥
apart zero n f h = later-low n h
apart (suc j) n f h = apart j (n / 2) (λ i l g. f (suc i) (omega arith) (up n i g)) (later-down n j (go (ℕ_discrete (n % 2) 1)) h)
  where
    go : Dec (n % 2 ≡ 1) → n % 2 ≡ 0
    go (yes o) = absurd (f 0 (omega arith) (low n o))
    go (no e) = omega (arith, e)

pub later-and : (n : ℕ) → Later n (bit_and n (n - 1))
unfolding later
later-and n = record { left = (shared-and n (n - 1)).left; apart = λ j. apart j n; all = λ i j. all i j n }

one-in : (room i : ℕ) → (0 < room) × (room ≤ 32) → i % room < room
one-in room i h = omega (arith, h.0)

-- ---- what the code computes, of a set by its number n and its room r
module _ {n number r room : ℕ} (en : n ≡ number) where
  pub tells : (i : ℕ) → r ≡ room → (eqb (n / 2 ^ (i % r) % 2) 1 ≡ true → Has number (i % room)) × (eqb (n / 2 ^ (i % r) % 2) 1 ≡ false → Has number (i % room) → ⊥)
  unfolding Has
  tells i er = rw (en, er) (λ e. eqb-true _ _ e, λ e. eqb-false _ _ e)

  pub tells-exact : (i : ℕ) → r ≡ room → i < room → (eqb (n / 2 ^ (i % r) % 2) 1 ≡ true → Has number i) × (eqb (n / 2 ^ (i % r) % 2) 1 ≡ false → Has number i → ⊥)
  tells-exact i er l = subst (λ (k : ℕ). (eqb (n / 2 ^ (i % r) % 2) 1 ≡ true → Has number k) × (eqb (n / 2 ^ (i % r) % 2) 1 ≡ false → Has number k → ⊥)) (mod-eq_of_lt l) (tells i er)

  -- the code's `1 << i`
  one-is : (i : ℕ) → r ≡ room → (0 < room) × (room ≤ 32) → 1 * 2 ^ (i % r) % 4294967296 ≡ 2 ^ (i % room)
  one-is i er h = rw er (one_shl 32 (i % room) (omega (arith, one-in room i h, h.1)))

  pub with-lt : (i : ℕ) → r ≡ room → (0 < room) × (room ≤ 32) → n < 2 ^ room → bit_or n (1 * 2 ^ (i % r) % 4294967296) < 2 ^ room
  with-lt i er h l = rw (one-is i er h) (or_lt room n (2 ^ (i % room)) l (pow_below (i % room) room (one-in room i h)))

  pub with-joined : (i : ℕ) → r ≡ room → (0 < room) × (room ≤ 32) → Joined number (2 ^ (i % room)) (bit_or n (1 * 2 ^ (i % r) % 4294967296))
  with-joined i er h = rw (one-is i er h, en) (union-or number (2 ^ (i % room)))

pub less-lt : (room a b : ℕ) → a < 2 ^ room → bit_xor a (bit_and a b) < 2 ^ room
less-lt room a b l = xor_lt room a (bit_and a b) l (omega (arith, and_le_l a b))

pub within-or : {a b m n : ℕ} → m ≡ a → n ≡ b → eqb (bit_or m n) n ≡ true → HasAll a b
within-or {a} {b} {m} {n} em en e = rw (← em, ← en) (all-or m n (eqb-true _ _ e))

-- the least bit of a number below 2 ^ room is within the room; of a set with members it is one, and none is below it
module _ (n room : ℕ) (l : n < 2 ^ room) (some : 0 < n) (narrow : room ≤ 32) where
  in_word : n < 2 ^ 32
  in_word = one (ℕ_discrete room 32)
    where
      one : Dec (room ≡ 32) → n < 2 ^ 32
      one (yes e) = rw e at l
      one (no e) = omega (arith, l, pow_below room 32 (omega (arith, narrow, e)))

  least-below : trailing_zeros w32 n < room
  least-below = one (leb room (trailing_zeros w32 n)) refl
    where
      bit : bit_at n (trailing_zeros w32 n) ≡ 1
      bit = (bit_at-trailing_zeros w32 n some in_word).1

      one : (above : Bool) → leb room (trailing_zeros w32 n) ≡ above → trailing_zeros w32 n < room
      one true e =
          let nought = bit_at_above n room (trailing_zeros w32 n) l (leb-true room (trailing_zeros w32 n) e) in
          absurd (omega (arith, bit, nought))
      one false e = leb-false room (trailing_zeros w32 n) e

  pub least-member : Has n (trailing_zeros w32 n % room)
  unfolding Has
  least-member = rw (mod-eq_of_lt least-below) ((bit_at-trailing_zeros w32 n some in_word).1)

  pub least-first : NoneBelow n (trailing_zeros w32 n % room)
  unfolding Has
  least-first j l h =
      let nought = (bit_at-trailing_zeros w32 n some in_word).2 j (rw (mod-eq_of_lt least-below) at l) in
      absurd (omega (arith, h, nought))

pub least-in : {n number r room : ℕ} → n ≡ number → r ≡ room → (0 < room) × (room ≤ 32) → n < 2 ^ room → 0 < number → Has number (trailing_zeros w32 n % r)
least-in {n} {number} {r} {room} en er h l some = rw (← en, er) (least-member n room l (omega (arith, en, some)) h.1)

pub none-below : {n number r room : ℕ} → n ≡ number → r ≡ room → (0 < room) × (room ≤ 32) → n < 2 ^ room → 0 < number → NoneBelow number (trailing_zeros w32 n % r)
none-below {n} {number} {r} {room} en er h l some = rw (← en, er) (least-first n room l (omega (arith, en, some)) h.1)
