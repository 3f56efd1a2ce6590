-- Cubes that are narrowed: none of it, one literal, more; and the suspects that a test meets.
use Rattle.std.specs.Prelude.{◌^◌, ◌<◌, ◌≡◌}
use Rattle.lists.specs.Proving.{arith, ℕ, refl, sym, ◌∙◌, ap, subst, ⊎_elim, List, length, get_or, set, length-set, get_or-set_other, ℕ_discrete}
use Rattle.cubes.specs.Sets.{Has, HasAll, Joined}
use Rattle.cubes.specs.laws.SetLaw.{nothing, alone}
use Rattle.leaves.specs.Members.{Exact}
use Rattle.leaves.specs.laws.MembersLaw.{literals-set}
use Rattle.cursors.specs.Steering.{SpeaksOf, Narrowed}

pub speaks-exact : {p cube : List ℕ} {settled : ℕ} → Exact 32 p settled cube → SpeaksOf settled cube
speaks-exact f = record { free = λ j h l. (f.at j h l).free }

pub speaks-wider : {a b : ℕ} {cube : List ℕ} → HasAll a b → SpeaksOf a cube → SpeaksOf b cube
speaks-wider g f = record { free = λ j h l n. f.free j h l (λ k. n (g j k)) }

pub narrowed_none : {base cube : List ℕ} → Narrowed base cube cube
narrowed_none = record { literals = λ f. f; speaks = λ s l b f. f }

pub narrowed-more : {base a b c : List ℕ} → Narrowed base a b → Narrowed base b c → Narrowed base a c
narrowed-more f g = record { literals = λ l. g.literals (f.literals l); speaks = λ s l b w. g.speaks s l b (f.speaks s l b w) }

-- at a suspect of which the base speaks
pub narrowed-set : {base cube : List ℕ} (i b k l : ℕ) → i < 32 → b ≡ i → k ≡ i → l < 1048576 → (get_or base b 0 ≡ 4294967295 → ⊥) → Narrowed base cube (set cube k l)
narrowed-set {base} {cube} i b k l h eb ek w n = record {
  literals = literals-set k l w;
  speaks = λ s long f g. record { free = λ j lj lc m. go s long f g j lj (rw (length-set cube k l) at lc) m (ℕ_discrete j k) };
}
  where
    go : (s : ℕ) → length base ≡ 32 → SpeaksOf s base → SpeaksOf s cube → (j : ℕ) → j < 32 → j < length cube → (Has s j → ⊥) → Dec (j ≡ k) → get_or (set cube k l) j 0 ≡ 4294967295
    go s long f g j lj lc m (yes e) =
        let same : b ≡ j = omega arith in
        absurd (n (ap (λ (x : ℕ). get_or base x 0) same ∙ f.free j lj (omega arith) m))
    go s long f g j lj lc m (no d) = get_or-set_other cube k j l 0 d ∙ g.free j lj lc m

-- ---- the suspects that a test meets are settled
pub met-none : (settled : ℕ) → HasAll 0 settled
met-none settled j h = absurd (nothing j h)

pub met-more : {used r : ℕ} (settled i : ℕ) → Joined used (2 ^ i) r → HasAll used settled → Has settled i → HasAll r settled
met-more settled i f g h j k = ⊎_elim (λ w. g j w) (λ w. subst (λ (x : ℕ). Has settled x) (sym (alone refl w)) h) (f.only j k)
