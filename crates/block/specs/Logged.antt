-- Logs as bytes (02, Point 9), and the mutants of a block that give one.
use Rattle.std.specs.Prelude.{cond, ◌≡◌, List, [], ◌∷◌, ℕ, ◌/◌, ◌%◌, ◌<◌, ◌≤◌, eqb, length, get_or, drop}
use Rattle.lists.specs.Lists.{joined}
use Rattle.model.specs.Log.{Observation, reset, seen, GivesFrom}
use Rattle.block.specs.Tabulated.{step_of, start_of}
use Rattle.block.specs.declared.logged.Observed.{Observed}

-- what is observed along any bytes: 16 (PULSE) is a reset; 17 (SEEN) an input with the output seen, in the two bytes after it (0 past
-- the end); any other byte is nothing. So what is left of a log from any of its bytes on is a log
unfoldable pub observations : List ℕ → List Observation
observations [] = []
observations (v ∷ log) =
    let rest = observations log in
    let command = cond (eqb v 17) (seen (get_or log 0 0 % 16) (get_or log 1 0 % 16) ∷ rest) rest in
    cond (eqb v 16) (reset ∷ rest) command

-- the bytes of observations
abbrev pub command_bytes : Observation → List ℕ
command_bytes reset = 16 ∷ []
command_bytes (seen x o) = 17 ∷ x ∷ o ∷ []

unfoldable pub log_bytes : List Observation → List ℕ
log_bytes l = joined command_bytes l

-- inputs and outputs are below 16
abbrev pub LowSeen : Observation → Type 0
LowSeen reset = Unit {0}
LowSeen (seen x o) = (x < 16) × (o < 16)

-- an observation as one number: 256 is a reset, any other an input * 16 + the output seen
unfoldable pub observation : ℕ → Observation
observation v = cond (eqb v 256) reset (seen (v / 16) (v % 16))

-- the observation at an offset of a log, or nothing (a number above 256), and the offset from which the others follow
pub record ObservedAt (log : List ℕ) (at : ℕ) (r : Observed) : Type 0 where
  pub is : r.code ≤ 256 → observations (drop at log) ≡ observation r.code ∷ observations (drop r.next log)
  pub nothing : 256 < r.code → observations (drop at log) ≡ observations (drop r.next log)
  pub onward : at < r.next
  pub inside : r.next ≤ length log

-- the mutant b gives the log
unfoldable pub GivesOf : List ℕ → List ℕ → List ℕ → Type 0
GivesOf m b log = GivesFrom (step_of m b) (start_of m b) (start_of m b) (observations log)
