-- Cubes that steer: their literals one by one, and which suspects are free in the cube of a settled part.
use Rattle.std.specs.Prelude.{◌+◌, ◌<◌, ◌≡◌, ◌⊎◌, ◌∷◌}
use Rattle.lists.specs.Proving.{arith, ℕ, zero, suc, inl, inr, List, [], length, get_or, set, List·getD-eq-default, dec_lt}
use Rattle.cubes.specs.Sets.{Has}
use Rattle.cubes.specs.Cube.{Means}
use Rattle.cubes.specs.laws.SetLaw.{nothing}
use Rattle.leaves.specs.Members.{MeansOnly, Exact, Literals}

-- what holds of the elements of a list, and of a new one, holds once it is set
pub each_set : (P : ℕ → Type 0) (xs : List ℕ) (i v j : ℕ) → P v → P (get_or xs j 0) → P (get_or (set xs i v) j 0)
each_set P [] i v j new old = old
each_set P (x ∷ xs) zero v zero new old = new
each_set P (x ∷ xs) zero v (suc j) new old = old
each_set P (x ∷ xs) (suc i) v zero new old = old
each_set P (x ∷ xs) (suc i) v (suc j) new old = each_set P xs i v j new old

abbrev Fit : ℕ → Type 0
Fit l = (l ≡ 4294967295) ⊎ (l < 1048576)

pub literals-set : {cube : List ℕ} (i l : ℕ) → l < 1048576 → Literals cube → Literals (set cube i l)
literals-set {cube} i l h f = record { at = λ j w. each_set Fit cube i l j (inr h) (f.at j w) }

-- where nothing is settled, all is free
pub literals-free : {p cube : List ℕ} → Exact 32 p 0 cube → Literals cube
literals-free {p} {cube} f = record { at = λ j h. go j h (dec_lt j (length cube)) }
  where
    go : (j : ℕ) → j < 32 → Dec (j < length cube) → Fit (get_or cube j 0)
    go j h (yes l) = inl ((f.at j h l).free (nothing j))
    go j h (no n) = inr (omega (arith, n, List·getD-eq-default cube 0 {n = j} (omega (arith, n))))

-- the literal of all transitions means not only one
all-not-one : {l o t : ℕ} → l ≡ 4294967295 → MeansOnly l o t → ⊥
unfolding Means
all-not-one {l} {o} {t} e f = omega (arith, f.output (record { output = o + 1; target = t }) (inl e))

-- a suspect of whose transitions all are meant is not settled
pub exact-free : {p cube : List ℕ} {settled : ℕ} (j : ℕ) → Exact 32 p settled cube → j < 32 → j < length cube → get_or cube j 0 ≡ 4294967295 → Has settled j → ⊥
exact-free j f h l e s = all-not-one e ((f.at j h l).meant s)
