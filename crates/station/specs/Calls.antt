-- Histories of calls, what the implementation (01: lock) got and gave in one, and what a verdict means.
use Rattle.std.specs.Prelude.{ℕ, suc, ◌<◌, ◌≡◌, Bool, true, false, cond, ◌⊎◌, List, [], ◌∷◌, ◌++◌, map, length, get_or, take}
use Rattle.std.proofs.Math.Option.{some}
use Rattle.lists.specs.Lists.{joined}
use Rattle.sheet.specs.Sheet.{Sheet}
use Rattle.sheet.specs.Reading.{Result, accepted, refused, reading}
use Rattle.model.specs.Mutant.{IsMutant}
use Rattle.model.specs.Suite.{Place}
use Rattle.model.specs.Implementation.{Event, reset, input, Proper, Implementation, BehavesAs, GivesAll, suite_events}
use Rattle.model.specs.Verdict.{Complete}
use Rattle.station.specs.declared.State.{State}
use Rattle.station.specs.declared.Step.{Step}
use Rattle.station.specs.declared.Step.TheVariants as step
use Rattle.station.specs.Station.{Given, Heard, beginning, nexting, taking, changing, expected}

-- a call after begin, with the sheet and state that it was given, what else it was given, and what it answered
pub data Call : Type 0 where
  next : List ℕ → State → Result Given → Call
  take-output : List ℕ → State → ℕ → Result Heard → Call
  change : List ℕ → State → List ℕ → Result State → Call

abbrev pub sheet_of : Call → List ℕ
sheet_of (next s st r) = s
sheet_of (take-output s st o r) = s
sheet_of (change s st c r) = s

abbrev pub state_of : Call → State
state_of (next s st r) = st
state_of (take-output s st o r) = st
state_of (change s st c r) = st

-- it answered as promised
abbrev pub Answered : Call → Type 0
Answered (next s st r) = r ≡ nexting s st
Answered (take-output s st o r) = r ≡ taking s st o
Answered (change s st c r) = r ≡ changing s st c

-- the sheet that it leaves: a changed sheet that is accepted; otherwise the one before
abbrev pub sheet_left : Call → List ℕ
sheet_left (next s st r) = s
sheet_left (take-output s st o r) = s
sheet_left (change s st c (accepted left)) = c
sheet_left (change s st c (refused number place)) = s

-- the state that it leaves: a refusal leaves the one before
abbrev pub state_left : Call → State
state_left (next s st (accepted g)) = g.state
state_left (next s st (refused number place)) = st
state_left (take-output s st o (accepted h)) = h.state
state_left (take-output s st o (refused number place)) = st
state_left (change s st c (accepted left)) = left
state_left (change s st c (refused number place)) = st

-- each call took the sheet and the state that the one before left, the first of them those given
unfoldable pub Chained : List ℕ → State → List Call → Type 0
Chained s st [] = Unit {0}
Chained s st (c ∷ cs) = (sheet_of c ≡ s) × (state_of c ≡ st) × Answered c × Chained (sheet_left c) (state_left c) cs

-- a history: an accepted begin with the sheet s, then the calls
pub record History (s : List ℕ) (calls : List Call) : Type 0 where
  pub start : State
  pub begins : beginning s ≡ accepted start
  pub chained : Chained s start calls

-- the sheet after the calls: the first, or the last changed one that was accepted
unfoldable pub last_sheet : List ℕ → List Call → List ℕ
last_sheet s [] = s
last_sheet s (c ∷ cs) = last_sheet (sheet_left c) cs

-- the state after the calls
unfoldable pub last_state : State → List Call → State
last_state st [] = st
last_state st (c ∷ cs) = last_state (state_left c) cs

-- ---- what the implementation got and gave
-- an input is due from when it is given until its output is taken
abbrev pub due_after : Step → Bool → Bool
due_after step.Reset due = due
due_after (step.Input x) due = true
due_after step.Pass due = due
due_after (step.Failure t i) due = due

abbrev pub due_left : Bool → Call → Bool
due_left due (next s st (accepted g)) = due_after g.step due
due_left due (next s st (refused number place)) = due
due_left due (take-output s st o (accepted h)) = false
due_left due (take-output s st o (refused number place)) = due
due_left due (change s st c r) = due

-- whether one is due after the calls
unfoldable pub due_from : Bool → List Call → Bool
due_from due [] = due
due_from due (c ∷ cs) = due_from (due_left due c) cs

abbrev pub due_in : List Call → Bool
due_in calls = due_from false calls

-- a reset or an input is given; while an input is due, it is that one again, which the implementation gets once
abbrev pub given_by : Step → Bool → List Event
given_by step.Reset due = reset ∷ []
given_by (step.Input x) due = cond due [] (input x ∷ [])
given_by step.Pass due = []
given_by (step.Failure t i) due = []

abbrev pub events_of : Bool → Call → List Event
events_of due (next s st (accepted g)) = given_by g.step due
events_of due (next s st (refused number place)) = []
events_of due (take-output s st o r) = []
events_of due (change s st c r) = []

abbrev pub taken_of : Call → List ℕ
taken_of (next s st r) = []
taken_of (take-output s st o (accepted h)) = o ∷ []
taken_of (take-output s st o (refused number place)) = []
taken_of (change s st c r) = []

unfoldable pub got_from : Bool → List Call → List Event
got_from due [] = []
got_from due (c ∷ cs) = events_of due c ++ got_from (due_left due c) cs

-- the resets and inputs that it got: each that was given, once, in order, and nothing else
abbrev pub got_in : List Call → List Event
got_in calls = got_from false calls

-- the outputs that were taken
unfoldable pub taken_in : List Call → List ℕ
taken_in [] = []
taken_in (c ∷ cs) = taken_of c ++ taken_in cs

-- ---- the verdicts
-- a call answered pass
abbrev pub GivesPass : Call → Type 0
GivesPass (next s st (accepted g)) = g.step ≡ step.Pass
GivesPass (next s st (refused number place)) = ⊥
GivesPass (take-output s st o r) = ⊥
GivesPass (change s st c r) = ⊥

-- a call answered a failure at a test and a position
abbrev pub GivesFailure : Place → Call → Type 0
GivesFailure f (next s st (accepted g)) = g.step ≡ step.Failure f.test f.position
GivesFailure f (next s st (refused number place)) = ⊥
GivesFailure f (take-output s st o (accepted h)) = h.failure ≡ some f
GivesFailure f (take-output s st o (refused number place)) = ⊥
GivesFailure f (change s st c r) = ⊥

-- some call of the history did
unfoldable pub Some : (Call → Type 0) → List Call → Type 0
Some P [] = ⊥
Some P (c ∷ cs) = P c ⊎ Some P cs

-- of every history: the last sheet is accepted and complete, and what the implementation got is the front of its suite
pub record FrontMeans (s : List ℕ) (calls : List Call) : Type 0 where
  pub sheet : Sheet
  pub read : reading (last_sheet s calls) ≡ accepted sheet
  pub complete : Complete sheet
  pub rest : List Event
  pub got : got_in calls ++ rest ≡ suite_events sheet.tests

-- the same, of a history without a verdict, and that each output taken is the specified one
pub record RightMeans (s : List ℕ) (calls : List Call) : Type 0 where
  pub sheet : Sheet
  pub read : reading (last_sheet s calls) ≡ accepted sheet
  pub complete : Complete sheet
  pub rest : List Event
  pub got : got_in calls ++ rest ≡ suite_events sheet.tests
  pub more : List ℕ
  pub taken : taken_in calls ++ more ≡ joined (expected sheet) sheet.tests

-- what pass means: the last sheet is accepted and complete; the implementation got exactly its suite, and each output taken is the
-- specified one; and if it gave the outputs taken and behaves as a mutant of that sheet, it gives every specified output, on every list of
-- resets and inputs
pub record PassMeans (s : List ℕ) (calls : List Call) : Type 0 where
  pub sheet : Sheet
  pub read : reading (last_sheet s calls) ≡ accepted sheet
  pub complete : Complete sheet
  pub got : got_in calls ≡ suite_events sheet.tests
  pub taken : taken_in calls ≡ joined (expected sheet) sheet.tests
  pub guarantee : (implementation : Implementation) (b : List ℕ) → IsMutant sheet b → BehavesAs sheet b implementation →
      implementation (got_in calls) ≡ taken_in calls → (es : List Event) → Proper sheet es → GivesAll sheet implementation es

-- what a failure means: the tests before it and the test's inputs up to the position were given, each output taken before the last is
-- the specified one, and the last, that of the input at the position, is another
pub record FailureMeans (s : List ℕ) (calls : List Call) (f : Place) : Type 0 where
  pub sheet : Sheet
  pub read : reading (last_sheet s calls) ≡ accepted sheet
  pub is : f.test < length sheet.tests
  pub reached : f.position < length (get_or sheet.tests f.test [])
  pub got : got_in calls ≡ suite_events (take f.test sheet.tests) ++ (reset ∷ map input (take (suc f.position) (get_or sheet.tests f.test [])))
  pub output : ℕ
  pub taken : taken_in calls ≡ (joined (expected sheet) (take f.test sheet.tests) ++ take f.position (expected sheet (get_or sheet.tests f.test []))) ++ output ∷ []
  pub wrong : output ≡ get_or (expected sheet (get_or sheet.tests f.test [])) f.position 0 → ⊥
