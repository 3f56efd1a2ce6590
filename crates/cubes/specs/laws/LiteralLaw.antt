-- What literals mean.
use Rattle.std.specs.Prelude.{◌+◌, ◌*◌, ◌/◌, ◌%◌, ◌^◌, ◌≤◌, ◌≡◌}
use Rattle.lists.specs.Proving.{arith, ℕ, sym, ◌∙◌, ap, subst, inl, inr, List, get_or}
use Rattle.std.specs.Int.Bits.{bit_and, and_self}
use Rattle.std.proofs.lemmas.Nat.{and_shr, and_mod, and_le_l}
use Rattle.model.specs.Machine.{Move}
use Rattle.cubes.specs.Sets.{Has, Shared}
use Rattle.cubes.specs.Cube.{Means, GoingOk, SoundsOk, BothOk, FreedOk}
use Rattle.cubes.specs.laws.SetLaw.{nothing, alone, shared-and}

pub meant : (l : ℕ) (v : Move) → (l ≡ 4294967295 → ⊥) → Means l v → (l / 65536 ≡ v.output) × Has (l % 65536) v.target
unfolding Means
meant l v n (inl e) = absurd (n e)
meant l v n (inr h) = h

pub meaning : (l : ℕ) (v : Move) → l / 65536 ≡ v.output → Has (l % 65536) v.target → Means l v
unfolding Means
meaning l v e h = inr (e, h)

pub any-means : (l : ℕ) (v : Move) → l ≡ 4294967295 → Means l v
unfolding Means
any-means l v e = inl e

pub going-any : {facts : List ℕ} {l i o r : ℕ} → r ≡ get_or facts (i * 16 + o) 0 → GoingOk facts l i o r
going-any e = record { at = λ v h eo g. rw e g }

pub going-none : {facts : List ℕ} {l i o r : ℕ} → (l ≡ 4294967295 → ⊥) → (l / 65536 ≡ o → ⊥) → GoingOk facts l i o r
going-none {l = l} n d = record { at = λ v h eo g. absurd (d ((meant l v n h).0 ∙ eo)) }

pub going-some : {facts : List ℕ} {l i o f g r : ℕ} → (l ≡ 4294967295 → ⊥) → f ≡ get_or facts (i * 16 + o) 0 → g ≡ l % 65536 → Shared f g r → GoingOk facts l i o r
going-some {l = l} n ef eg s = record { at = λ v h eo y. s.both v.target (rw ef y) (rw eg (meant l v n h).1) }

pub sounds-any : {facts : List ℕ} {l i o : ℕ} → get_or facts (512 + i) 0 ≡ 2 ^ o → SoundsOk facts l i o
sounds-any e = record { at = λ v h y. alone e y }

pub sounds-some : {facts : List ℕ} {l i o : ℕ} → (l ≡ 4294967295 → ⊥) → l / 65536 ≡ o → SoundsOk facts l i o
sounds-some {l = l} n e = record { at = λ v h y. sym (meant l v n h).0 ∙ e }

pub freed-all : {facts : List ℕ} {l i o g row : ℕ} → SoundsOk facts l i o → GoingOk facts l i o g → ((j : ℕ) → Has g j → Has row j) → FreedOk facts l i o row
freed-all s g w = record { out = s.at; next = λ v h e y. w v.target (g.at v h e y) }

-- ---- what both mean
pub both_left : {a b : ℕ} → a ≡ 4294967295 → BothOk a b b
both_left {a} e = record { left = λ v h. any-means a v e; right = λ v h. h }

pub both_right : {a b : ℕ} → b ≡ 4294967295 → BothOk a b a
both_right {a} {b} e = record { left = λ v h. h; right = λ v h. any-means b v e }

means-none : (v : Move) → Means 0 v → ⊥
means-none v h = nothing v.target (meant 0 v (λ e. omega (arith, e)) h).1

pub both-none : {a b : ℕ} → BothOk a b 0
both-none = record { left = λ v h. absurd (means-none v h); right = λ v h. absurd (means-none v h) }

pub both_some : {a b : ℕ} → (a ≡ 4294967295 → ⊥) → a ≤ 4294967295 → a / 65536 ≡ b / 65536 → BothOk a b (bit_and a b)
both_some {a} {b} n la e = record {
  left = λ v h. meaning a v (out v h) ((shared-and (a % 65536) (b % 65536)).left v.target (rest v h));
  right = λ v h. meaning b v (sym e ∙ out v h) ((shared-and (a % 65536) (b % 65536)).right v.target (rest v h));
}
  where
    low : bit_and a b ≡ 4294967295 → ⊥
    low z = n (omega (arith, and_le_l a b))

    high : bit_and a b / 65536 ≡ a / 65536
    high = and_shr a b 16 ∙ ap (λ (y : ℕ). bit_and (a / 65536) y) (sym e) ∙ and_self (a / 65536)

    rest : (v : Move) → Means (bit_and a b) v → Has (bit_and (a % 65536) (b % 65536)) v.target
    rest v h = subst (λ (y : ℕ). Has y v.target) (and_mod a b 16) (meant (bit_and a b) v low h).1

    out : (v : Move) → Means (bit_and a b) v → a / 65536 ≡ v.output
    out v h = sym high ∙ (meant (bit_and a b) v low h).0
