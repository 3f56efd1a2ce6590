-- What a look at one mutant tells.
use Rattle.std.specs.Prelude.{◌≡◌, ◌⊎◌, List, ℕ, length, take}
use Rattle.std.proofs.Math.Option.{some}
use Rattle.sheet.specs.Sheet.{Sheet}
use Rattle.model.specs.Suite.{Passes, compare_of}
use Rattle.cubes.specs.declared.goal.Goal.TheVariants.{Nonconforming}
use Rattle.walks.specs.Walks.{NoneBy}
use Rattle.search.specs.Search.{mutant_in}
use Rattle.clearing.specs.declared.looks.Looked.{Looked}
use Rattle.clearing.specs.declared.looks.Looked.TheVariants as looked
use Rattle.clearing.specs.Sweep.{Cleared, Blames}

-- no nonconforming mutant that has the choices at the slots of the set gives the log; or these are all 32 slots, and nothing is said
abbrev pub BySome : List ℕ → List ℕ → List ℕ → ℕ → Type 0
BySome m log p set = NoneBy Nonconforming m log p set ⊎ (set ≡ 4294967295)

-- the mutant passes the suite, and the first d inputs of the buffer are its shortest distinguishing sequence
pub record Found (sh : Sheet) (b : List ℕ) (d : ℕ) (buffer : List ℕ) : Type 0 where
  pub passes : Passes sh b
  pub inputs : List ℕ
  pub compared : compare_of sh b ≡ some inputs
  pub long : d ≡ length inputs
  pub shown : take d buffer ≡ inputs

abbrev pub LookedOk : Sheet → List ℕ → Looked → List ℕ → Type 0
LookedOk sh p (looked.Fails set) buffer = Blames sh p set
LookedOk sh p looked.Conforms buffer = Cleared sh (mutant_in sh p)
LookedOk sh p (looked.Survives d) buffer = Found sh (mutant_in sh p) d buffer
