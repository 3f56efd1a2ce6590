-- What the answers about a record mean, in 02's words.
use Rattle.std.specs.Prelude.{ℕ, zero, suc, ◌+◌, ◌<◌, ◌≡◌, Bool, true, false, ◌⊎◌, List, [], ◌∷◌, ◌++◌, length, get_or}
use Rattle.std.proofs.Math.Option.{Option, none, some}
use Rattle.lists.specs.Lists.{All, Before}
use Rattle.sheet.specs.Sheet.{Sheet}
use Rattle.model.specs.Machine.{Move}
use Rattle.model.specs.Mutant.{rule, IsMutant}
use Rattle.model.specs.Verdict.{ComparedMeans}
use Rattle.model.specs.Log.{Observation, reset, seen, GivesLog, suite_log}
use Rattle.model.specs.Walk.{Taken}
use Rattle.block.specs.Logged.{observations, log_bytes}
use Rattle.records.specs.Record.{specified_at, advance}

-- ---- 20
-- the input is below k, the output below m
abbrev pub Within : ℕ → ℕ → Observation → Type 0
Within k m reset = Unit {0}
Within k m (seen x o) = (x < k) × (o < m)

-- a PULSE stands before the first SEEN: there was one before these commands, or they begin with one
abbrev pub Led : Bool → List Observation → Type 0
Led true l = Unit {0}
Led false [] = Unit {0}
Led false (reset ∷ l) = Unit {0}
Led false (seen x o ∷ l) = ⊥

-- the bytes of a record are whole commands in range, a PULSE first
pub record Whole (sh : Sheet) (log : List ℕ) : Type 0 where
  pub bytes : log ≡ log_bytes (observations log)
  pub within : All (Within sh.size.inputs sh.size.outputs) (observations log)
  pub led : Led false (observations log)

-- what stands here is no PULSE, and no SEEN that is whole, in range and after some PULSE: it is cut, unknown, out of range, or a SEEN
-- before any PULSE
pub record Broken (k m : ℕ) (pulsed : Bool) (rest : List ℕ) : Type 0 where
  pub some_byte : rest ≡ [] → ⊥
  pub no-pulse : (more : List ℕ) → rest ≡ 16 ∷ more → ⊥
  pub no-seen : (x o : ℕ) (more : List ℕ) → rest ≡ 17 ∷ x ∷ o ∷ more → x < k → o < m → pulsed ≡ false

-- whether there was a PULSE, after whole commands of which the first is one
abbrev pub pulsed_in : Bool → List Observation → Bool
pulsed_in pulsed [] = pulsed
pulsed_in pulsed (c ∷ l) = true

-- the first broken command stands at this offset, after whole ones in range
pub record BrokenAt (sh : Sheet) (log : List ℕ) (at : ℕ) : Type 0 where
  pub before : List Observation
  pub rest : List ℕ
  pub bytes : log ≡ log_bytes before ++ rest
  pub place : at ≡ length (log_bytes before)
  pub within : All (Within sh.size.inputs sh.size.outputs) before
  pub led : Led false before
  pub broken : Broken sh.size.inputs sh.size.outputs (pulsed_in false before) rest

-- ---- the first difference
-- the specification's state at an offset: none before any PULSE, and after an undefined press until the next PULSE
unfoldable pub state_at : (ℕ → ℕ → Option Move) → Option ℕ → List ℕ → ℕ → Option ℕ
state_at rule p [] at = p
state_at rule p (v ∷ rest) zero = p
state_at rule p (v ∷ rest) (suc at) = state_at rule (advance rule p v rest) rest at

-- at this offset stands a SEEN whose sound differs from the specification's
pub record DiffersAt (rule : ℕ → ℕ → Option Move) (log : List ℕ) (at : ℕ) : Type 0 where
  pub inside : at < length log
  pub is_seen : get_or log at 0 ≡ 17
  pub specified : Move
  pub there : specified_at rule (state_at rule none log at) (get_or log (at + 1) 0) ≡ some specified
  pub other : specified.output ≡ get_or log (at + 2) 0 → ⊥

-- the place of the first such SEEN, or none
abbrev pub FirstDifference : (ℕ → ℕ → Option Move) → List ℕ → Option ℕ → Type 0
FirstDifference rule log none = (at : ℕ) → DiffersAt rule log at → ⊥
FirstDifference rule log (some at) = DiffersAt rule log at × ((i : ℕ) → i < at → DiffersAt rule log i → ⊥)

-- ---- the boards that give it
-- a mutant that gives every output of the record, the same one throughout
pub record GivesRecord (sh : Sheet) (log b : List ℕ) : Type 0 where
  pub is : IsMutant sh b
  pub gives : GivesLog sh b (observations log)

-- yes exactly when one does
abbrev pub GivenMeans : Sheet → List ℕ → Bool → Type 0
GivenMeans sh log true = (b : List ℕ) × GivesRecord sh log b
GivenMeans sh log false = (b : List ℕ) → GivesRecord sh log b → ⊥

-- the first that does, with compare's answer, or none
pub record FirstGives (sh : Sheet) (log b : List ℕ) : Type 0 where
  pub gives : GivesRecord sh log b
  pub least : (c : List ℕ) → GivesRecord sh log c → (c ≡ b) ⊎ Before b c

abbrev pub ExplainedMeans : Sheet → List ℕ → Option Taken → Type 0
ExplainedMeans sh log none = (b : List ℕ) → GivesRecord sh log b → ⊥
ExplainedMeans sh log (some t) = FirstGives sh log t.mutant × ComparedMeans sh t.mutant t.compared

-- ---- the suite's record: for each test in turn a PULSE, and each input with the specified output
unfoldable pub suite_record : Sheet → List ℕ
suite_record sh = log_bytes (suite_log sh)
