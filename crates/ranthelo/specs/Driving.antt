-- The bench station's state and answers as numbers: a refusal's number and place first (0 and 0 where there is none), then the values.
use Rattle.std.specs.Prelude.{Result as Answer, Option as Maybe, Ok, Err, Some, None}
use Rattle.std.specs.Prelude.{ℕ, ◌-◌, cond, List, [], ◌∷◌, eqb, get_or}
use Rattle.logs.specs.declared.walk.Wrong.{Wrong}
use Rattle.sheet.specs.declared.Refusal.{Refusal}
use Rattle.station.specs.declared.Phase.{Phase}
use Rattle.station.specs.declared.Phase.TheVariants as phase
use Rattle.station.specs.declared.State.{State}
use Rattle.station.specs.declared.Step.{Step}
use Rattle.station.specs.declared.Step.TheVariants as step
use Rattle.station.specs.declared.Advanced.{Advanced}
use Rattle.station.specs.declared.Heard.{Heard}
use Rattle.station.specs.Station.{state_at}
use Rattle.ranthelo.specs.Numbers.{refused_numbers, tried_numbers}

-- the state: tests begun, position, whether an input is due, verdict (0: none, 1: pass, any other: a failure).
-- Any four numbers are a state: a verdict goes before an input that is due
abbrev pub phase_of : ℕ → ℕ → Phase
phase_of due verdict = cond (eqb verdict 0) (cond (eqb due 0) phase.Ready phase.Due) (cond (eqb verdict 1) phase.Passed phase.Failed)

abbrev pub state_of : List ℕ → State
state_of ns = state_at (get_or ns 0 0) (get_or ns 1 0) (phase_of (get_or ns 2 0) (get_or ns 3 0))

abbrev pub phase_numbers : Phase → List ℕ
phase_numbers phase.Ready = 0 ∷ 0 ∷ []
phase_numbers phase.Due = 1 ∷ 0 ∷ []
phase_numbers phase.Passed = 0 ∷ 1 ∷ []
phase_numbers phase.Failed = 0 ∷ 2 ∷ []

abbrev pub state_numbers : State → List ℕ
state_numbers st = st.begun ∷ st.position ∷ phase_numbers st.phase

-- number, place
abbrev pub begun_numbers : Answer State Refusal → List ℕ
begun_numbers (Ok st) = 0 ∷ 0 ∷ []
begun_numbers (Err why) = refused_numbers 0 why

-- the state that begin leaves; a refusal leaves the numbers as they were, here and below
abbrev pub begun_state : Answer State Refusal → List ℕ → List ℕ
begun_state (Ok st) before = state_numbers st
begun_state (Err why) before = before

-- kind (0: reset, 1: input, 2: pass, 3: failure); of a reset the test and 0, of an input that and its position, of a failure its test and position
abbrev pub step_numbers : Step → State → List ℕ
step_numbers step.Reset st = 0 ∷ (st.begun - 1) ∷ 0 ∷ []
step_numbers (step.Input x) st = 1 ∷ x ∷ st.position ∷ []
step_numbers step.Pass st = 2 ∷ 0 ∷ 0 ∷ []
step_numbers (step.Failure test position) st = 3 ∷ test ∷ position ∷ []

-- number, place; the step
abbrev pub advanced_numbers : Answer Advanced Refusal → List ℕ
advanced_numbers (Ok given) = 0 ∷ 0 ∷ step_numbers given.step given.state
advanced_numbers (Err why) = refused_numbers 3 why

abbrev pub advanced_state : Answer Advanced Refusal → List ℕ → List ℕ
advanced_state (Ok given) before = state_numbers given.state
advanced_state (Err why) before = before

-- kind (0: taken, 3: failure), test and position of the failure
abbrev pub wrong_numbers : Maybe Wrong → List ℕ
wrong_numbers None = 0 ∷ 0 ∷ 0 ∷ []
wrong_numbers (Some w) = 3 ∷ w.test ∷ w.position ∷ []

-- number, place; what came of the output
abbrev pub taken_numbers : Answer Heard Refusal → List ℕ
taken_numbers (Ok heard) = 0 ∷ 0 ∷ wrong_numbers heard.wrong
taken_numbers (Err why) = refused_numbers 3 why

abbrev pub taken_state : Answer Heard Refusal → List ℕ → List ℕ
taken_state (Ok heard) before = state_numbers heard.state
taken_state (Err why) before = before

-- number, place
abbrev pub changed_numbers : Answer (Unit {0}) Refusal → List ℕ
changed_numbers r = tried_numbers r
