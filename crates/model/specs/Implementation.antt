-- Implementations (01: locks), known by their outputs alone, and the lasting guarantee.
use Rattle.std.specs.Prelude.{ℕ, ◌<◌, ◌≡◌, List, [], ◌∷◌, ◌++◌, map}
use Rattle.std.proofs.Math.Option.{Option, none, some}
use Rattle.sheet.specs.Sheet.{Sheet}
use Rattle.model.specs.Machine.{Move}
use Rattle.model.specs.Mutant.{step, rule, initial, IsMutant}

-- what an implementation gets: a reset (01: fresh start) or an input (01: press)
pub data Event : Type 0 where
  reset : Event
  input : ℕ → Event

-- each input is below k
unfoldable pub InputsBelow : ℕ → List Event → Type 0
InputsBelow k [] = Unit {0}
InputsBelow k (reset ∷ es) = InputsBelow k es
InputsBelow k (input x ∷ es) = (x < k) × InputsBelow k es

-- a reset stands before the first input
unfoldable pub ResetFirst : List Event → Type 0
ResetFirst [] = Unit {0}
ResetFirst (reset ∷ es) = Unit {0}
ResetFirst (input x ∷ es) = ⊥

unfoldable pub Proper : Sheet → List Event → Type 0
Proper sh es = ResetFirst es × InputsBelow sh.size.inputs es

-- the outputs of a machine whose state is one number: a reset sets it to `start` and gives no output; an input takes a
-- transition, gives its output and goes to its next state
unfoldable pub respond_from : (ℕ → ℕ → Move) → ℕ → ℕ → List Event → List ℕ
respond_from move start s [] = []
respond_from move start s (reset ∷ es) = respond_from move start start es
respond_from move start s (input x ∷ es) = (move s x).output ∷ respond_from move start (move s x).target es

-- with the one mutant b throughout
unfoldable pub respond : Sheet → List ℕ → List Event → List ℕ
respond sh b es = respond_from (step sh b) (initial sh b) (initial sh b) es

-- the specified move, where the specification's state is still known
abbrev pub move_from : (ℕ → ℕ → Option Move) → Option ℕ → ℕ → Option Move
move_from rule none x = none
move_from rule (some s) x = rule s x

abbrev pub output_of : Option Move → Option ℕ
output_of none = none
output_of (some r) = some r.output

abbrev pub target_of : Option Move → Option ℕ
target_of none = none
target_of (some r) = some r.target

-- one for each input: the specified output, if there is one. The specification's state is 0 after a reset; after an input
-- without a rule it is none, and no output is specified until the next reset
unfoldable pub required_from : (ℕ → ℕ → Option Move) → Option ℕ → List Event → List (Option ℕ)
required_from rule s [] = []
required_from rule s (reset ∷ es) = required_from rule (some 0) es
required_from rule s (input x ∷ es) =
    let r = move_from rule s x in
    output_of r ∷ required_from rule (target_of r) es

unfoldable pub required : Sheet → List Event → List (Option ℕ)
required sh es = required_from (rule sh) none es

-- the outputs are as many as the inputs, and each specified output is given
unfoldable pub Gives : List ℕ → List (Option ℕ) → Type 0
Gives [] [] = Unit {0}
Gives [] (r ∷ rs) = ⊥
Gives (o ∷ os) [] = ⊥
Gives (o ∷ os) (none ∷ rs) = Gives os rs
Gives (o ∷ os) (some r ∷ rs) = (o ≡ r) × Gives os rs

abbrev pub Implementation : Type 0
Implementation = List Event → List ℕ

-- on every proper list it gives the outputs of the mutant's machine
unfoldable pub BehavesAs : Sheet → List ℕ → Implementation → Type 0
BehavesAs sh b implementation = (es : List Event) → Proper sh es → implementation es ≡ respond sh b es

unfoldable pub GivesAll : Sheet → Implementation → List Event → Type 0
GivesAll sh implementation es = Gives (implementation es) (required sh es)

-- for each test in turn a reset and the test's inputs
unfoldable pub suite_events : List (List ℕ) → List Event
suite_events [] = []
suite_events (t ∷ ts) = (reset ∷ map input t) ++ suite_events ts

-- every specified output is given on one list, that of the whole suite
unfoldable pub PassesSuite : Sheet → Implementation → Type 0
PassesSuite sh implementation = GivesAll sh implementation (suite_events sh.tests)

-- demand 3: every implementation that behaves as some mutant of the sheet and passes the suite gives every specified output
-- on every list of resets and inputs
unfoldable pub Guaranteed : Sheet → Type 0
Guaranteed sh =
    (implementation : Implementation) (b : List ℕ) →
    IsMutant sh b → BehavesAs sh b implementation → PassesSuite sh implementation →
    (es : List Event) → Proper sh es → GivesAll sh implementation es
