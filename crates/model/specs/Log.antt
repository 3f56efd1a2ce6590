-- Logs: what is observed of a machine (02: a lock's record). The test suite with its specified outputs is one.
use Rattle.std.specs.Prelude.{ℕ, suc, ◌-◌, ◌≡◌, cond, List, [], ◌∷◌, ◌++◌, eqb}
use Rattle.std.proofs.Math.Option.{Option, none, some}
use Rattle.lists.specs.Lists.{maybe}
use Rattle.sheet.specs.Sheet.{Sheet}
use Rattle.model.specs.Machine.{Move}
use Rattle.model.specs.Mutant.{rule, step, initial}
use Rattle.model.specs.Suite.{Place}

-- a reset (01: fresh start), or an input with the output that was seen
pub data Observation : Type 0 where
  reset : Observation
  seen : ℕ → ℕ → Observation

-- from the state s the machine gives every output of the log; a reset sets it to `start`
unfoldable pub GivesFrom : (ℕ → ℕ → Move) → ℕ → ℕ → List Observation → Type 0
GivesFrom move start s [] = Unit {0}
GivesFrom move start s (reset ∷ l) = GivesFrom move start start l
GivesFrom move start s (seen x o ∷ l) = ((move s x).output ≡ o) × GivesFrom move start (move s x).target l

-- the mutant b gives the log
abbrev pub GivesLog : Sheet → List ℕ → List Observation → Type 0
GivesLog sh b l = GivesFrom (step sh b) (initial sh b) (initial sh b) l

-- the first output of the log that the machine does not give, as a test and a position in it: from the state s, with that many
-- tests begun and that many inputs of the last one gone; a reset begins the next test
unfoldable pub failed_in : (ℕ → ℕ → Move) → ℕ → ℕ → ℕ → ℕ → List Observation → Option Place
failed_in move start s begun position [] = none
failed_in move start s begun position (reset ∷ l) = failed_in move start start (suc begun) 0 l
failed_in move start s begun position (seen x o ∷ l) =
    let rest = failed_in move start (move s x).target begun (suc position) l in
    cond (eqb (move s x).output o) rest (some (record { test = begun - 1; position = position }))

-- the inputs of a test, each with the specified output
unfoldable pub test_log : (ℕ → ℕ → Option Move) → ℕ → List ℕ → List Observation
test_log rule s [] = []
test_log rule s (x ∷ xs) = maybe (rule s x) [] (λ r. seen x r.output ∷ test_log rule r.target xs)

-- for each test in turn a reset and its inputs
unfoldable pub tests_log : (ℕ → ℕ → Option Move) → List (List ℕ) → List Observation
tests_log rule [] = []
tests_log rule (t ∷ ts) = reset ∷ (test_log rule 0 t ++ tests_log rule ts)

unfoldable pub suite_log : Sheet → List Observation
suite_log sh = tests_log (rule sh) sh.tests
