-- Exchanging two numbers; sets and beginnings whose members have a property.
use Rattle.std.specs.Prelude.{◌+◌, ◌^◌, ◌<◌, ◌≤◌, ◌≡◌}
use Rattle.lists.specs.Proving.{arith, ℕ, refl, sym, ◌∙◌, subst, ⊎_elim, ℕ_discrete, below_more, eq-eqb, ne_eqb}
use Rattle.cubes.specs.Sets.{Joined}
use Rattle.cubes.specs.laws.SetLaw.{nothing, alone}
use Rattle.mirror.specs.Mirror.{other, Each, Below}

pub other-first : (a b s : ℕ) → s ≡ a → other a b s ≡ b
unfolding other
other-first a b s e = rw (eq-eqb _ _ e)

pub other-second : (a b s : ℕ) → (s ≡ a → ⊥) → s ≡ b → other a b s ≡ a
unfolding other
other-second a b s n e = rw (ne_eqb _ _ n, eq-eqb _ _ e)

pub other-rest : (a b s : ℕ) → (s ≡ a → ⊥) → (s ≡ b → ⊥) → other a b s ≡ s
unfolding other
other-rest a b s n k = rw (ne_eqb _ _ n, ne_eqb _ _ k)

-- what holds of b where s is a, of a where s is b, and of s, holds of the other
pub other-cases : (P : ℕ → Type 0) (a b s : ℕ) → (s ≡ a → P b) → (s ≡ b → P a) → ((s ≡ a → ⊥) → (s ≡ b → ⊥) → P s) → P (other a b s)
other-cases P a b s f g h = go (ℕ_discrete s a) (ℕ_discrete s b)
  where
    go : Dec (s ≡ a) → Dec (s ≡ b) → P (other a b s)
    go (yes e) z = rw (other-first a b s e) (f e)
    go (no n) (yes e) = rw (other-second a b s n e) (g e)
    go (no n) (no k) = rw (other-rest a b s n k) (h n k)

-- it is its own inverse
pub other-twice : (a b s : ℕ) → other a b (other a b s) ≡ s
other-twice a b s = other-cases (λ t. other a b t ≡ s) a b s (λ e. back (ℕ_discrete b a) e) (λ e. other-first a b a refl ∙ sym e) (λ n k. other-rest a b s n k)
  where
    back : Dec (b ≡ a) → s ≡ a → other a b b ≡ s
    back (yes w) e = other-first a b b w ∙ w ∙ sym e
    back (no n) e = other-second a b b n refl ∙ sym e

pub other-back : (a b s : ℕ) → s ≡ b → other a b s ≡ a
other-back a b s w = other-cases (λ t. t ≡ a) a b s (λ e. sym w ∙ e) (λ e. refl) (λ n k. absurd (k w))

pub other-low : (a b s n : ℕ) → a < n → b < n → s < n → other a b s < n
other-low a b s n la lb ls = other-cases (λ t. t < n) a b s (λ e. lb) (λ e. la) (λ p q. ls)

pub other-same : (a b s : ℕ) → other a b s ≡ other b a s
other-same a b s = other-cases (λ t. t ≡ other b a s) a b s (λ e. sym (other-back b a s e)) (λ e. sym (other-first b a s e)) (λ n k. sym (other-rest b a s k n))

-- ---- sets
pub each_none : {P : ℕ → Type 0} → Each P 0
each_none = record { at = λ t h. absurd (nothing t h) }

pub each-one : {P : ℕ → Type 0} {e : ℕ} (s : ℕ) → e ≡ 2 ^ s → P s → Each P e
each-one {P} s ee p = record { at = λ t h. subst (λ (y : ℕ). P y) (sym (alone ee h)) p }

pub each_more : {P : ℕ → Type 0} {x y u : ℕ} → Each P x → Each P y → Joined x y u → Each P u
each_more f g jo = record { at = λ t h. ⊎_elim (λ old. f.at t old) (λ new. g.at t new) (jo.only t h) }

-- ---- beginnings
pub none_below : {P : ℕ → Type 0} → Below P 0
none_below = record { at = λ j l. absurd (omega arith) }

pub more-below : {P : ℕ → Type 0} {n : ℕ} → Below P n → P n → Below P (n + 1)
more-below {n = n} f h = record { at = below_more _ n f.at h }

pub all-below : {P : ℕ → Type 0} {n k : ℕ} → Below P n → k ≤ n → Below P k
all-below f l = record { at = λ j h. f.at j (omega arith) }
