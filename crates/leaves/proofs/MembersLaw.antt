-- A literal that means one transition; the cube of a settled part.
use Rattle.std.specs.Prelude.{◌+◌, ◌-◌, ◌*◌, ◌/◌, ◌%◌, ◌^◌, ◌<◌, ◌≤◌, ◌≡◌, ◌⊎◌}
use Rattle.lists.specs.Proving.{arith, ℕ, zero, suc, refl, sym, ◌∙◌, ap, subst, inl, inr, ⊎_elim, List, length, get_or, set, length-set, get_or-set_same, get_or-set_other, ℕ_discrete}
use Rattle.cubes.specs.Sets.{Has, Joined}
use Rattle.cubes.specs.Cube.{Means}
use Rattle.cubes.specs.laws.SetLaw.{nothing, alone, one_same}
use Rattle.leaves.specs.Members.{MeansOnly, Settles, Exact}

-- ---- a literal with one next state
pub means-only : {l o t next : ℕ} → o < 16 → next < 65536 → Joined 0 (2 ^ t) next → l ≡ o * 65536 + next → MeansOnly l o t
unfolding Means
means-only {l} {o} {t} {next} a b jo e = record {
  here = inr (omega arith, subst (λ (n : ℕ). Has n t) rest (jo.right t (one_same t)));
  output = λ v. ⊎_elim (λ w. absurd (omega (arith, w))) (λ w. omega (arith, w.0));
  target = λ v. ⊎_elim (λ w. absurd (omega (arith, w))) (λ w. only (jo.only _ (subst (λ (n : ℕ). Has n v.target) (sym rest) w.1)));
}
  where
    rest : next ≡ l % 65536
    rest = omega arith

    only : {i : ℕ} → Has 0 i ⊎ Has (2 ^ t) i → i ≡ t
    only (inl h) = absurd (nothing _ h)
    only (inr h) = alone refl h

-- ---- the cube of a settled part
pub exact_none : {p cube : List ℕ} {settled : ℕ} → Exact 0 p settled cube
exact_none = record { at = λ j h. absurd (omega arith) }

-- one suspect more, at the indices by which the code reads and writes it
pub exact-more : {p cube : List ℕ} {settled n : ℕ} (v i k : ℕ) → n < 32 → i ≡ n → k ≡ n → Exact n p settled cube → Settles settled (n % 32) (get_or p i 0) v →
    Exact (n + 1) p settled (set cube k v)
exact-more {p} {cube} {settled} {n} v i k l ei ek f s = record { at = λ j h w. go j h (rw (length-set cube k v) at w) (ℕ_discrete j k) }
  where
    go : (j : ℕ) → j < n + 1 → j < length cube → Dec (j ≡ k) → Settles settled j (get_or p j 0) (get_or (set cube k v) j 0)
    go j h w (yes e) =
        let here : j ≡ n % 32 = omega arith in
        let read : j ≡ i = omega arith in
        let same : get_or (set cube k v) j 0 ≡ v = ap (λ (m : ℕ). get_or (set cube k v) m 0) e ∙ get_or-set_same cube k v 0 (omega arith) in
        subst (λ (m : ℕ). Settles settled j (get_or p j 0) m) (sym same)
        (subst (λ (m : ℕ). Settles settled j (get_or p m 0) v) (sym read) (subst (λ (m : ℕ). Settles settled m (get_or p i 0) v) (sym here) s))
    go j h w (no d) = subst (λ (m : ℕ). Settles settled j (get_or p j 0) m) (sym (get_or-set_other cube k j v 0 d)) (f.at j (omega (arith, d)) w)

pub exact-all : {p cube : List ℕ} {settled n : ℕ} → 32 ≤ n → Exact n p settled cube → Exact 32 p settled cube
exact-all l f = record { at = λ j h. f.at j (omega arith) }
