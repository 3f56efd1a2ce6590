-- Which suspect is met on the walk of a settled part.
use Rattle.std.specs.Prelude.{◌≡◌, List, ℕ, ◌<◌, get_or, Option as Maybe, IfSome}
use Rattle.cubes.specs.Sets.{Has}
use Rattle.leaves.specs.Noted.{Changed}

-- a suspect, if there is one, all of whose transitions the cube means
abbrev pub Free : List ℕ → Maybe ℕ → Type 0
Free cube r = IfSome r (λ i. (i < 32) × (get_or cube i 0 ≡ 4294967295))

-- a suspect, if there is one, that is not settled; but for the witness no note has changed
pub record Meets (settled : ℕ) (old new : List ℕ) (r : Maybe ℕ) : Type 0 where
  pub met : IfSome r (λ i. (i < 32) × (Has settled i → ⊥))
  pub changed : Changed 4 40 old new
