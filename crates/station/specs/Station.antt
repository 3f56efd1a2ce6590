-- 02's Point 13, the bench station: what each call comes to, as one function of the bytes and the state that it gets. A state that no
-- call left is no error.
use Rattle.std.specs.Prelude.{ℕ, zero, suc, ◌-◌, ◌≡◌, Bool, true, false, not, ◌&&◌, List, [], ◌∷◌, ◌++◌, eqb, ltb, length, get_or, take, drop}
use Rattle.std.proofs.Math.Option.{Option, none, some}
use Rattle.lists.specs.Lists.{maybe, first}
use Rattle.sheet.specs.Sheet.{Sheet}
use Rattle.sheet.specs.Reading.{Result, accepted, refused, Reading, reading}
use Rattle.sheet.specs.Encode.{size_bytes, quiet_bytes, row_bytes, test_bytes}
use Rattle.model.specs.Mutant.{specified}
use Rattle.model.specs.Suite.{Place, Judgement, complete, survivor, judge_of}
use Rattle.model.specs.Operations.{reads, refuse_if}
use Rattle.station.specs.declared.Phase.{Phase}
use Rattle.station.specs.declared.Phase.TheVariants as phase
use Rattle.station.specs.declared.State.{State}
use Rattle.station.specs.declared.Step.{Step}
use Rattle.station.specs.declared.Step.TheVariants as step

abbrev pub state_at : ℕ → ℕ → Phase → State
state_at begun position phase = record { begun = begun; position = position; phase = phase }

-- no test has begun
abbrev pub fresh : State
fresh = state_at 0 0 phase.Ready

abbrev pub is_complete : Judgement → Bool
is_complete complete = true
is_complete (survivor b xs) = false

-- a first or a changed sheet: refused on reading, then 22 if its suite is not complete
unfoldable pub suited : List ℕ → Result Sheet
suited s = reads (reading s) (λ sh. refuse_if (not (is_complete (judge_of sh))) 22 0 (accepted sh))

-- ---- begin
unfoldable pub beginning : List ℕ → Result State
beginning s = reads (suited s) (λ sh. accepted fresh)

-- ---- next: refused on reading alone
-- the inputs of the test begun last, of so many; none where no test has begun
unfoldable pub current : List (List ℕ) → ℕ → List ℕ
current ts zero = []
current ts (suc i) = get_or ts i []

-- the element at a place
abbrev pub element_at : List ℕ → ℕ → Option ℕ
element_at xs i = first (drop i xs)

-- the input at the position in the test begun last: it is due, or it is the next
unfoldable pub input_at : Sheet → State → Option ℕ
input_at sh st = element_at (current sh.tests st.begun) st.position

-- what a next step is, and the state that it leaves
pub record Given : Type 0 where
  pub step : Step
  pub state : State

-- the next test's reset; pass where there is no such test
abbrev pub onward : Bool → State → Given
onward true st = record { step = step.Reset; state = state_at (suc st.begun) 0 phase.Ready }
onward false st = record { step = step.Pass; state = state_at st.begun st.position phase.Passed }

-- an input that is due is given again; the next input of the test begun last is due then; else onward
abbrev pub along : Sheet → State → Option ℕ → Given
along sh st none = onward (ltb st.begun (length sh.tests)) st
along sh st (some x) = record { step = step.Input x; state = state_at st.begun st.position phase.Due }

-- a verdict is given again
abbrev pub next_by : Phase → Sheet → State → Given
next_by phase.Ready sh st = along sh st (input_at sh st)
next_by phase.Due sh st = along sh st (input_at sh st)
next_by phase.Passed sh st = record { step = step.Pass; state = st }
next_by phase.Failed sh st = record { step = step.Failure (st.begun - 1) st.position; state = st }

unfoldable pub nexting : List ℕ → State → Result Given
nexting s st = reads (reading s) (λ sh. accepted (next_by st.phase sh st))

-- ---- take an output: refused on reading, then 24
-- the specified outputs of a test
unfoldable pub expected : Sheet → List ℕ → List ℕ
expected sh t = maybe (specified sh t) [] (λ os. os)

-- the specified output of the input that is due; none where none is
abbrev pub due_by : Phase → Sheet → State → Option ℕ
due_by phase.Ready sh st = none
due_by phase.Due sh st = element_at (expected sh (current sh.tests st.begun)) st.position
due_by phase.Passed sh st = none
due_by phase.Failed sh st = none

-- the test and position of the input given last
abbrev pub place_of : State → Place
place_of st = record { test = st.begun - 1; position = st.position }

-- the failure, if the output is another than specified, and the state that it leaves
pub record Heard : Type 0 where
  pub failure : Option Place
  pub state : State

abbrev pub heard_as : Bool → State → Heard
heard_as true st = record { failure = none; state = state_at st.begun (suc st.position) phase.Ready }
heard_as false st = record { failure = some (place_of st); state = state_at st.begun st.position phase.Failed }

-- 24: no input is due, or the output is not below m
abbrev pub take_by : Option ℕ → Sheet → State → ℕ → Result Heard
take_by none sh st o = refused 24 0
take_by (some e) sh st o = refuse_if (not (ltb o sh.size.outputs)) 24 0 (accepted (heard_as (eqb o e) st))

unfoldable pub taking : List ℕ → State → ℕ → Result Heard
taking s st o = reads (reading s) (λ sh. take_by (due_by st.phase sh st) sh st o)

-- ---- change: the changed sheet is refused on reading, then 22, then 23
unfoldable pub same : List ℕ → List ℕ → Bool
same [] [] = true
same [] (y ∷ ys) = false
same (x ∷ xs) [] = false
same (x ∷ xs) (y ∷ ys) = let rest = same xs ys in eqb x y && rest

-- the bytes of SIZE, QUIET and the RULEs
unfoldable pub head_bytes : Sheet → List ℕ
head_bytes sh = size_bytes sh.size ++ (quiet_bytes sh.quiet ++ row_bytes 2 sh.rules)

-- SIZE, QUIET, the RULEs and the first tests, so many, are equal: each is spelled by the same bytes (the law `agrees-exactly`)
unfoldable pub agrees : Sheet → Sheet → ℕ → Bool
agrees sh changed begun = same (head_bytes sh) (head_bytes changed) && same (test_bytes (take begun sh.tests)) (test_bytes (take begun changed.tests))

-- the same in words
pub record Agree (sh changed : Sheet) (begun : ℕ) : Type 0 where
  pub size : sh.size ≡ changed.size
  pub quiet : sh.quiet ≡ changed.quiet
  pub rules : sh.rules ≡ changed.rules
  pub tests : take begun sh.tests ≡ take begun changed.tests

-- no verdict was given
abbrev pub is_open : Phase → Bool
is_open phase.Ready = true
is_open phase.Due = true
is_open phase.Passed = false
is_open phase.Failed = false

-- the station's sheet; what is none agrees with nothing
abbrev pub agrees_with : Reading → Sheet → ℕ → Bool
agrees_with (accepted sh) changed begun = agrees sh changed begun
agrees_with (refused number place) changed begun = false

-- 23: there is a verdict, or the sheets differ there. The state stays
unfoldable pub changing : List ℕ → State → List ℕ → Result State
changing s st c =
    reads (suited c) (λ changed. refuse_if (not (is_open st.phase && agrees_with (reading s) changed st.begun)) 23 0 (accepted st))
