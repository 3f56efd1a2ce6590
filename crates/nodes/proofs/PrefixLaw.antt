-- A cube has every mutant that extends a prefix.
use Rattle.std.specs.Prelude.{◌+◌, ◌<◌, ◌≤◌, ◌≡◌}
use Rattle.lists.specs.Proving.{arith, ℕ, refl, sym, ◌∙◌, ap, ap₂, subst, List, get_or, below_more}
use Rattle.model.specs.Machine.{Move}
use Rattle.block.specs.Layout.{site_at}
use Rattle.block.specs.Tabulated.{Wf, Ranged, choices_at, choice_of, chosen, StepIs}
use Rattle.block.specs.declared.layout.Step.{Step}
use Rattle.block.specs.laws.ChoiceLaw.{chosen-some, choice-at}
use Rattle.cubes.specs.Cube.{Means, MeansStep, Extends}
use Rattle.cubes.specs.laws.LiteralLaw.{any-means}
use Rattle.nodes.specs.Prefix.{SlotHas, PrefixIn}

pub record PrefixTo (m cube p : List ℕ) (n : ℕ) : Type 0 where
  pub at : (i : ℕ) → i < n → SlotHas m cube p i

pub prefix-none : {m cube p : List ℕ} → PrefixTo m cube p 0
prefix-none = record { at = λ i l. absurd (omega arith) }

pub prefix-more : {m cube p : List ℕ} {n : ℕ} → PrefixTo m cube p n → SlotHas m cube p n → PrefixTo m cube p (n + 1)
prefix-more {n = n} t f = record { at = below_more _ n t.at f }

pub prefix-all : {m cube p : List ℕ} {n : ℕ} → Wf m → PrefixTo m cube p n → 32 ≤ n → PrefixIn m cube p
prefix-all {m} wf t l = record { at = λ b r e. record { at = λ k lk nk. (t.at (site_at m k) (omega (arith, wf.sites k lk nk))).at k lk refl b r e } }

pub slot-any : {m cube p : List ℕ} {i : ℕ} → get_or cube i 0 ≡ 4294967295 → SlotHas m cube p i
slot-any e = record { at = λ k lk ek b r x. any-means _ _ e }

-- no other pair has the slot
pub slot-some : {m cube p : List ℕ} {i k : ℕ} (c : ℕ) (s : Step) → Wf m → i < 32 → k < 257 → site_at m k ≡ i → c ≡ get_or p i 0 → (c ≡ 256 → ⊥) → StepIs m k c s → MeansStep (get_or cube i 0) s.output s.target → SlotHas m cube p i
slot-some {m} {cube} {p} {i} {k} c s wf li lk ek ec nc is ms = record { at = go }
  where
    some : site_at m k ≡ 255 → ⊥
    some z = omega (arith, z, ek, li)

    go : (h : ℕ) → h < 257 → site_at m h ≡ i → (b : List ℕ) → Ranged m b → Extends b p → Means (get_or cube i 0) (choice_of m h (chosen m b h))
    go h lh eh b r x =
        let same : get_or b i 0 ≡ c = x i (λ z. nc (ec ∙ z)) ∙ sym ec in
        let has : chosen m b k ≡ c = chosen-some m b k some ∙ ap (λ (y : ℕ). get_or b y 0) ek ∙ same in
        let low : c < choices_at m k = choice-at m k i c ek li (omega (arith, same, r.at i li)) in
        let move : ◌≡◌ {A = Move} (record { output = s.output; target = s.target }) (choice_of m k c) = ap₂ (λ (o t : ℕ). record { output = o; target = t }) (is.output wf low) (is.target wf low) in
        subst (λ (y : ℕ). Means (get_or cube i 0) (choice_of m y (chosen m b y))) (sym (wf.once k h lk lh some (eh ∙ sym ek))) (rw has (subst (λ (v : Move). Means (get_or cube i 0) v) move ms))
