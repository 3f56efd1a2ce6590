-- What the answers of the operations mean, in the words of the demands.
use Rattle.std.specs.Prelude.{ℕ, ◌<◌, ◌≤◌, ◌*◌, ◌≡◌, ◌⊎◌, true, List, [], ◌∷◌, map, length, get_or, take}
use Rattle.std.proofs.Math.Option.{Option, none, some}
use Rattle.lists.specs.Lists.{Before, count}
use Rattle.sheet.specs.Sheet.{Sheet}
use Rattle.model.specs.Mutant.{slots, IsMutant, outputs, specified, Distinguishes, Conforming}
use Rattle.model.specs.Used.{has, Usage}
use Rattle.model.specs.Suite.{Place, Passes, Judgement, complete, survivor}
use Rattle.model.specs.Implementation.{reset, input, respond, Guaranteed}

-- the mutant's outputs on a test are the specified ones
abbrev pub RightOn : Sheet → List ℕ → List ℕ → Type 0
RightOn sh b t = specified sh t ≡ some (outputs sh b t)

-- every test before this one is right, and in it every output before the position, and the output there is wrong
pub record FirstFailed (sh : Sheet) (b : List ℕ) (f : Place) : Type 0 where
  pub is : f.test < length sh.tests
  pub before : (i : ℕ) → i < f.test → RightOn sh b (get_or sh.tests i [])
  pub expected : List ℕ
  pub specifies : specified sh (get_or sh.tests f.test []) ≡ some expected
  pub reached : f.position < length expected
  pub agree : take f.position (outputs sh b (get_or sh.tests f.test [])) ≡ take f.position expected
  pub wrong : get_or (outputs sh b (get_or sh.tests f.test [])) f.position 0 ≡ get_or expected f.position 0 → ⊥

-- run: the outputs are those of the machine that 01 describes, after one reset, one for each input
pub record RanMeans (sh : Sheet) (b xs os : List ℕ) : Type 0 where
  pub responds : os ≡ respond sh b (reset ∷ map input xs)
  pub one_each : length os ≡ length xs

-- of the slots that were used: bit i is set exactly if slot i was, no bit is set beyond the slots, and the number is how many were
pub record UsedMeans (sh : Sheet) (Was : ℕ → Type 0) (u : Usage) : Type 0 where
  pub every : (i : ℕ) → Was i → has u.set i ≡ true
  pub only : (i : ℕ) → has u.set i ≡ true → Was i
  pub below : (i : ℕ) → has u.set i ≡ true → i < length (slots sh)
  pub many : u.number ≡ count (has u.set) (length (slots sh))

-- first failed test: none fails, or the first that does and its first wrong output
abbrev pub FailedMeans : Sheet → List ℕ → Option Place → Type 0
FailedMeans sh b none = (i : ℕ) → i < length sh.tests → RightOn sh b (get_or sh.tests i [])
FailedMeans sh b (some f) = FirstFailed sh b f

-- ys has more inputs, or as many and a larger one where the two first differ
abbrev pub After : List ℕ → List ℕ → Type 0
After xs ys = (length xs < length ys) ⊎ ((length xs ≡ length ys) × Before xs ys)

-- xs distinguishes the mutant, has at most n × n inputs, and every other such sequence stands after it
pub record ShortestOf (sh : Sheet) (b xs : List ℕ) : Type 0 where
  pub distinguishes : Distinguishes sh b xs
  pub short : length xs ≤ sh.size.states * sh.size.states
  pub least : (ys : List ℕ) → Distinguishes sh b ys → (ys ≡ xs) ⊎ After xs ys

-- compare: conforming on every defined sequence of any length, or the shortest distinguishing sequence
abbrev pub ComparedMeans : Sheet → List ℕ → Option (List ℕ) → Type 0
ComparedMeans sh b none = Conforming sh b
ComparedMeans sh b (some xs) = ShortestOf sh b xs

-- a mutant that passes the suite and is nonconforming (01: a departing board that passes the list)
pub record Survives (sh : Sheet) (b : List ℕ) : Type 0 where
  pub is : IsMutant sh b
  pub passes : Passes sh b
  pub nonconforming : Conforming sh b → ⊥

-- 01: the first departing board that passes the list; every other such board stands later
pub record FirstSurvivor (sh : Sheet) (b : List ℕ) : Type 0 where
  pub survives : Survives sh b
  pub least : (c : List ℕ) → Survives sh c → (c ≡ b) ⊎ Before b c

-- the suite is complete: every nonconforming mutant fails some test
unfoldable pub Complete : Sheet → Type 0
Complete sh = (b : List ℕ) → IsMutant sh b → (Conforming sh b → ⊥) → Passes sh b → ⊥

-- judge: demand 3
abbrev pub JudgedMeans : Sheet → Judgement → Type 0
JudgedMeans sh complete = Complete sh × Guaranteed sh
JudgedMeans sh (survivor b xs) = FirstSurvivor sh b × ShortestOf sh b xs
