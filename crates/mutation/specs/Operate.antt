-- What the answers of Run, First failed test and Compare tell.
use Rattle.std.specs.Prelude.{Result as Answer, Ok, Err, Some, None}
use Rattle.std.specs.Prelude.{ℕ, ◌*◌, ◌≤◌, ◌<◌, ◌≡◌, List, [], ◌∷◌, length, get_or, take}
use Rattle.std.proofs.Math.Option.{Option, none, some}
use Rattle.sheet.specs.declared.Refusal.{Refusal}
use Rattle.sheet.specs.Sheet.{Sheet}
use Rattle.sheet.specs.Reading.{accepted, reading}
use Rattle.model.specs.Mutant.{IsMutant}
use Rattle.model.specs.Used.{Usage, Uses}
use Rattle.model.specs.Suite.{Place, tried_of}
use Rattle.model.specs.Verdict.{RanMeans, UsedMeans, FailedMeans, ComparedMeans}
use Rattle.block.specs.Layout.{states_of, inputs_of}
use Rattle.machine.specs.Differences.{Difference}
use Rattle.machine.specs.Product.{Valid}
use Rattle.usage.specs.Tried.{place_of}
use Rattle.mutation.specs.declared.Used.{Used}
use Rattle.mutation.specs.declared.Tested.{Tested}

-- what running asks: the machine stays among the states of a block, starts there, and the inputs are the block's
pub record Runnable (m targets : List ℕ) (start : ℕ) (inputs : List ℕ) : Type 0 where
  pub valid : Valid m targets
  pub low : start < states_of m
  pub below : (i : ℕ) → i < length inputs → get_or inputs i 0 < inputs_of m

abbrev pub usage_of : Used → Usage
usage_of u = record { number = u.number; set = u.set }

-- the answer of run for a mutant: at the buffer's front stand the outputs of 01's machine, one for each input; and the slots used
abbrev pub RanSays : Sheet → List ℕ → List ℕ → Answer Used Refusal → List ℕ → Type 0
RanSays sh b xs (Ok u) buffer = RanMeans sh b xs (take (length xs) buffer) × UsedMeans sh (Uses sh b (xs ∷ [])) (usage_of u)
RanSays sh b xs (Err why) buffer = ⊥

unfoldable pub ToldRan : List ℕ → List ℕ → List ℕ → ℕ → Answer Used Refusal → List ℕ → Type 0
ToldRan s b xs room r buffer =
    (sh : Sheet) → reading s ≡ accepted sh → IsMutant sh b → ((i : ℕ) → i < length xs → get_or xs i 0 < sh.size.inputs) → length xs ≤ room →
    RanSays sh b xs r buffer

-- no test fails, or the first that does and its first wrong output; and the slots used by the tests until then
abbrev pub FoundSays : Sheet → List ℕ → Option Place → Used → Type 0
FoundSays sh b f u = FailedMeans sh b f × UsedMeans sh (Uses sh b (tried_of sh.tests f)) (usage_of u)

-- the answer of first failed test for a mutant
abbrev pub FailedSays : Sheet → List ℕ → Answer Tested Refusal → Type 0
FailedSays sh b (Ok t) = FoundSays sh b (place_of t.failed) t.used
FailedSays sh b (Err why) = ⊥

unfoldable pub ToldFailed : List ℕ → List ℕ → Answer Tested Refusal → Type 0
ToldFailed s b r = (sh : Sheet) → reading s ≡ accepted sh → IsMutant sh b → FailedSays sh b r

-- the answer of compare for a mutant: it conforms on sequences of any length, or the shortest distinguishing sequence
-- stands at the buffer's front
abbrev pub ComparedSays : Sheet → List ℕ → Answer Difference Refusal → List ℕ → Type 0
ComparedSays sh b (Ok None) buffer = ComparedMeans sh b none
ComparedSays sh b (Ok (Some d)) buffer = ComparedMeans sh b (some (take d buffer))
ComparedSays sh b (Err why) buffer = ⊥

unfoldable pub ToldCompared : List ℕ → List ℕ → ℕ → Answer Difference Refusal → List ℕ → Type 0
ToldCompared s b room r buffer =
    (sh : Sheet) → reading s ≡ accepted sh → IsMutant sh b → sh.size.states * sh.size.states ≤ room → ComparedSays sh b r buffer
