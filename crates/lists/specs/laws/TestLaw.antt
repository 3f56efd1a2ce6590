-- Laws of tests: joined by and, or by or; a test is not both true and false.
use Rattle.std.specs.Prelude.{◌≡◌, refl, Bool, true, false, ◌&&◌, ◌||◌, ◌⊎◌, ℕ}
use Rattle.std.proofs.Common.{inl, inr, arith}

-- two different numbers are never equal
pub never : {A : Type 0} → ◌≡◌ {A = ℕ} 0 1 → A
never z = absurd (omega arith)

-- tests joined by and, or by or
pub both : (a b : Bool) → a && b ≡ true → (a ≡ true) × (b ≡ true)
both true b h = (refl, h)
both false b h = never (cc)

pub and_both : (a b : Bool) → a ≡ true → b ≡ true → a && b ≡ true
and_both a b p q = rw (p, q)

pub either : (a b : Bool) → a || b ≡ true → (a ≡ true) ⊎ (b ≡ true)
either true b h = inl refl
either false b h = inr h

pub or_left : (a b : Bool) → a ≡ true → a || b ≡ true
or_left a b e = rw e

pub or_right : (a b : Bool) → b ≡ true → a || b ≡ true
or_right true b e = refl
or_right false b e = e

-- a test is not both true and false
pub clash : {A : Type 0} (b : Bool) → b ≡ true → b ≡ false → A
clash b t f = never (cc)

-- what is not true is false
pub not-true-false : (b : Bool) → (b ≡ true → ⊥) → b ≡ false
not-true-false true f = absurd (f refl)
not-true-false false f = refl
