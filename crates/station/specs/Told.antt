-- What the answers of the station's calls tell.
use Rattle.std.specs.Prelude.{Result as Answer}
use Rattle.std.specs.Prelude.{Option as Maybe, Some, None, Ok, Err}
use Rattle.std.specs.Prelude.{ℕ, ◌<◌, ◌≤◌, ◌≡◌, true, false, ◌⊎◌, List, [], ◌∷◌, ◌++◌}
use Rattle.logs.specs.declared.walk.Wrong.{Wrong}
use Rattle.sheet.specs.declared.Refusal.{Refusal}
use Rattle.sheet.specs.Sheet.{Sheet}
use Rattle.sheet.specs.Reading.{accepted, reading}
use Rattle.sheet.specs.Tables.{refusal_of}
use Rattle.model.specs.Suite.{Place}
use Rattle.model.specs.Implementation.{Event, input, Guaranteed}
use Rattle.model.specs.Verdict.{Complete}
use Rattle.station.specs.declared.State.{State}
use Rattle.station.specs.declared.Step.{Step}
use Rattle.station.specs.declared.Step.TheVariants as step
use Rattle.station.specs.declared.Advanced.{Advanced}
use Rattle.station.specs.declared.Heard.{Heard}
use Rattle.station.specs.Station.{fresh, input_at, nexting, taking, Agree, is_open}
use Rattle.station.specs.Answers.{advanced_at}
use Rattle.station.specs.Calls.{Call, next, take-output, History, last_sheet, last_state, due_in, got_in, GivesPass, GivesFailure, Some as SomeCall, RightMeans, PassMeans, FailureMeans}

-- begin, of an accepted sheet: it begins exactly if the suite is complete, and otherwise answers 22
pub record BegunSays (sh : Sheet) (r : Answer State Refusal) : Type 0 where
  pub begins : Complete sh → r ≡ Ok fresh
  pub only : r ≡ Ok fresh → Complete sh × Guaranteed sh
  pub otherwise : (Complete sh → ⊥) → r ≡ Err (refusal_of 22 0)

unfoldable pub ToldBegun : List ℕ → Answer State Refusal → Type 0
ToldBegun s r = (sh : Sheet) → reading s ≡ accepted sh → BegunSays sh r

-- a step, by the history up to it
abbrev pub StepSays : List ℕ → List Call → Step → Type 0
StepSays first calls step.Reset = RightMeans first calls
StepSays first calls (step.Input x) = RightMeans first calls
StepSays first calls step.Pass = PassMeans first calls
StepSays first calls (step.Failure t i) = FailureMeans first calls (record { test = t; position = i })

-- next is never refused in a history
abbrev pub AdvancedSays : List ℕ → List Call → Answer Advanced Refusal → Type 0
AdvancedSays first calls (Ok a) = StepSays first calls a.step
AdvancedSays first calls (Err why) = ⊥

-- an input that is due, the last that the implementation got, is given again, and so is a verdict
pub record NextSays (first : List ℕ) (calls : List Call) (s : List ℕ) (st : State) (r : Answer Advanced Refusal) : Type 0 where
  pub given : AdvancedSays first (calls ++ next s st (nexting s st) ∷ []) r
  pub same-input : due_in calls ≡ true → (x : ℕ) × (es : List Event) × (got_in calls ≡ es ++ input x ∷ []) × (r ≡ Ok (advanced_at (step.Input x) st))
  pub pass-again : SomeCall GivesPass calls → r ≡ Ok (advanced_at step.Pass st)
  pub failure-again : (f : Place) → SomeCall (GivesFailure f) calls → r ≡ Ok (advanced_at (step.Failure f.test f.position) st)

-- next, after any history that left this sheet and state: what pass and failure mean
unfoldable pub ToldNext : List ℕ → State → Answer Advanced Refusal → Type 0
ToldNext s st r =
    (first : List ℕ) (calls : List Call) (h : History first calls) → last_sheet first calls ≡ s → last_state h.start calls ≡ st → NextSays first calls s st r

-- an output is not refused exactly if an input is due and it is below m: then it is as specified, like each before it, or the first wrong one.
-- Otherwise it is refused with 24
abbrev pub BelowOutputs : List ℕ → ℕ → Type 0
BelowOutputs s o = (sh : Sheet) → reading s ≡ accepted sh → o < sh.size.outputs

abbrev pub HeardSays : List ℕ → List Call → Maybe Wrong → Type 0
HeardSays first calls None = RightMeans first calls
HeardSays first calls (Some w) = FailureMeans first calls (record { test = w.test; position = w.position })

abbrev pub TakenSays : List ℕ → List Call → List ℕ → State → ℕ → Answer Heard Refusal → Type 0
TakenSays first calls s st o (Ok heard) = (due_in calls ≡ true) × BelowOutputs s o × HeardSays first (calls ++ take-output s st o (taking s st o) ∷ []) heard.wrong
TakenSays first calls s st o (Err why) =
    (why.number ≡ 24) × (why.place ≡ 0) × ((due_in calls ≡ false) ⊎ ((sh : Sheet) → reading s ≡ accepted sh → sh.size.outputs ≤ o))

-- taking an output, after any history that left this sheet and state
unfoldable pub ToldTaken : List ℕ → State → ℕ → Answer Heard Refusal → Type 0
ToldTaken s st o r =
    (first : List ℕ) (calls : List Call) (h : History first calls) → last_sheet first calls ≡ s → last_state h.start calls ≡ st → TakenSays first calls s st o r

-- a change, of accepted sheets: it is accepted exactly if the changed suite is complete, no verdict was given, and the sheets agree up to
-- the test begun last; then the input that is due or the next in that test is the same. Otherwise 22, then 23
pub record ChangedSays (sh new : Sheet) (st : State) (r : Answer (Unit {0}) Refusal) : Type 0 where
  pub goes_on : Complete new → is_open st.phase ≡ true → Agree sh new st.begun → r ≡ Ok (tt {0})
  pub only : r ≡ Ok (tt {0}) → Complete new × (is_open st.phase ≡ true) × Agree sh new st.begun
  pub same-input : r ≡ Ok (tt {0}) → input_at new st ≡ input_at sh st
  pub incomplete : (Complete new → ⊥) → r ≡ Err (refusal_of 22 0)
  pub otherwise : Complete new → (is_open st.phase ≡ true → Agree sh new st.begun → ⊥) → r ≡ Err (refusal_of 23 0)

unfoldable pub ToldChanged : List ℕ → State → List ℕ → Answer (Unit {0}) Refusal → Type 0
ToldChanged s st c r = (sh new : Sheet) → reading s ≡ accepted sh → reading c ≡ accepted new → ChangedSays sh new st r
