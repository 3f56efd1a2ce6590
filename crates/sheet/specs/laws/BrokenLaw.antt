-- Laws of the first broken rule.
use Rattle.std.specs.Prelude.{◌≡◌, refl, Bool, true, false, cond, List, [], ◌∷◌, ℕ, ◌≤◌}
use Rattle.std.proofs.Common.{arith}
use Rattle.lists.specs.Lists.{All}
use Rattle.sheet.specs.Reading.{first_broken}

-- of tests with numbers up to a limit the first broken one has such a number
pub broken-most : (limit : ℕ) (l : List (Bool × ℕ)) → All (λ c. c.1 ≤ limit) l → first_broken l ≤ limit
unfolding first_broken
broken-most limit [] h = omega arith
broken-most limit (c ∷ l) h = one c.0 (broken-most limit l h.1)
  where
    one : (t : Bool) → first_broken l ≤ limit → cond t c.1 (first_broken l) ≤ limit
    one true k = h.0
    one false k = k

-- none is broken
pub unbroken : (l : List (Bool × ℕ)) → All (λ c. 1 ≤ c.1) l → first_broken l ≡ 0 → All (λ c. c.0 ≡ false) l
unfolding first_broken
unbroken [] h e = tt
unbroken (c ∷ l) h e = one c.0 refl e (unbroken l h.1)
  where
    one : (t : Bool) → c.0 ≡ t → cond t c.1 (first_broken l) ≡ 0 → (first_broken l ≡ 0 → All (λ c. c.0 ≡ false) l) → (c.0 ≡ false) × All (λ c. c.0 ≡ false) l
    one true u k ih = let some = h.0 in absurd (omega arith)
    one false u k ih = (u, ih k)

-- and the other way round
pub unbroken-all : (l : List (Bool × ℕ)) → All (λ c. c.0 ≡ false) l → first_broken l ≡ 0
unfolding first_broken
unbroken-all [] h = refl
unbroken-all (c ∷ l) h = rw h.0 (unbroken-all l h.1)
