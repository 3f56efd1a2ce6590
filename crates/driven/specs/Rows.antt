-- 02, Point 13: P2 driven to each verdict, changed sheets, and each refusal, by computation.
use Rattle.std.specs.Prelude.{ℕ, ◌≡◌, refl, List, [], ◌∷◌, ◌++◌, map, take, drop}
use Rattle.sheet.specs.Reading.{accepted, refused}
use Rattle.model.specs.Machine.{specified_from}
use Rattle.model.specs.Mutant.{specified}
use Rattle.model.specs.Suite.{Place}
use Rattle.model.specs.Implementation.{reset, input}
use Rattle.worked.specs.Sheets.{p1machine, p1, p2, only_rules}
use Rattle.worked.specs.Rows.{computing}
use Rattle.station.specs.declared.Step.TheVariants.{Reset, Input, Pass, Failure}
use Rattle.station.specs.Station.{fresh, suited, beginning, current, input_at, nexting, expected, taking, same, head_bytes, agrees, changing}
use Rattle.station.specs.Calls.{GivesPass, GivesFailure, got_from, got_in, taken_in, PassMeans, FailureMeans}
use Rattle.station.proofs.laws.PassedLaw.{pass-told, failure-told}
use Rattle.driven.specs.Histories.{Action, go, hear, swap, Answer, given, right, goes_on, refusal, driven, calls, answer_of, history, At, some_at}

-- ---- sheets beside P2, whose one test is aba
abbrev aba : List ℕ
aba = 0x04 ∷ 0x05 ∷ 0 ∷ 0x05 ∷ 1 ∷ 0x05 ∷ 0 ∷ []

-- with the test b after it; with a START; without the FAULT
unfoldable pub longer : List ℕ
longer = p1machine ++ (aba ++ 0x04 ∷ 0x05 ∷ 1 ∷ 0x06 ∷ [])

unfoldable pub waking : List ℕ
waking = p1machine ++ 0x07 ∷ 1 ∷ (aba ++ 0x06 ∷ [])

unfoldable pub faultless : List ℕ
faultless = only_rules ++ (aba ++ 0x06 ∷ [])

-- with one output more, QUIET, another output at (1, 0), the test abaa, no test
unfoldable pub sized : List ℕ
sized = 0x01 ∷ 2 ∷ 2 ∷ 3 ∷ drop 4 faultless

unfoldable pub silent : List ℕ
silent = 0x01 ∷ 2 ∷ 2 ∷ 2 ∷ 0x08 ∷ drop 4 faultless

unfoldable pub ruled : List ℕ
ruled = take 14 only_rules ++ 0x02 ∷ 1 ∷ 0 ∷ 1 ∷ 1 ∷ drop 19 faultless

unfoldable pub tested : List ℕ
tested = only_rules ++ (aba ++ 0x05 ∷ 0 ∷ 0x06 ∷ [])

unfoldable pub untested : List ℕ
untested = only_rules ++ 0x06 ∷ []

-- P1, whose list is not complete, with another output at (1, 0)
unfoldable pub poor : List ℕ
poor = take 14 p1 ++ 0x02 ∷ 1 ∷ 0 ∷ 1 ∷ 1 ∷ drop 19 p1

-- ---- rows: a sheet, what is done, and the answers
pub record Row : Type 0 where
  pub sheet : List ℕ
  pub actions : List Action
  pub answers : List Answer

abbrev row : List ℕ → List Action → List Answer → Row
row sheet actions answers = record { sheet = sheet; actions = actions; answers = answers }

abbrev pub Holds : Row → Type 0
Holds r = (beginning r.sheet ≡ accepted fresh) × (map answer_of (calls r.sheet r.actions) ≡ r.answers)

-- outputs before an input is due, the first input given three times, an output that is not below m; pass, and pass again
unfoldable pub passing : List Action
passing = hear 1 ∷ go ∷ hear 1 ∷ go ∷ go ∷ go ∷ hear 2 ∷ hear 1 ∷ hear 1 ∷ go ∷ hear 1 ∷ go ∷ hear 1 ∷ hear 1 ∷ go ∷ hear 1 ∷ swap p2 ∷ go ∷ []

unfoldable pub passed : Row
passed =
    row p2 passing
    (refusal 24 0 ∷ given Reset ∷ refusal 24 0 ∷ given (Input 0) ∷ given (Input 0) ∷ given (Input 0) ∷ refusal 24 0 ∷ right ∷ refusal 24 0
    ∷ given (Input 1) ∷ right ∷ given (Input 0) ∷ right ∷ refusal 24 0 ∷ given Pass ∷ refusal 24 0 ∷ refusal 23 0 ∷ given Pass ∷ [])

-- a wrong output at position 2: the failure at once, and again
unfoldable pub failing : List Action
failing = go ∷ go ∷ hear 1 ∷ go ∷ hear 1 ∷ go ∷ hear 0 ∷ hear 1 ∷ swap p2 ∷ go ∷ []

unfoldable pub failed : Row
failed =
    row p2 failing
    (given Reset ∷ given (Input 0) ∷ right ∷ given (Input 1) ∷ right ∷ given (Input 0) ∷ given (Failure 0 2) ∷ refusal 24 0 ∷ refusal 23 0
    ∷ given (Failure 0 2) ∷ [])

-- changes while an input is due: refused on reading; 22, before 23; 23 for SIZE, QUIET, RULEs, a test that is longer or missing; and one that
-- is taken: it goes on at the same input, and the test that came with it is driven too
unfoldable pub changing-mid : List Action
changing-mid =
    go ∷ go ∷ hear 1 ∷ go ∷ swap [] ∷ swap p1 ∷ swap poor ∷ swap sized ∷ swap silent ∷ swap ruled ∷ swap tested ∷ swap untested
    ∷ swap waking ∷ swap longer ∷ go ∷ hear 1 ∷ go ∷ hear 1 ∷ go ∷ go ∷ hear 0 ∷ go ∷ []

unfoldable pub changed : Row
changed =
    row p2 changing-mid
    (given Reset ∷ given (Input 0) ∷ right ∷ given (Input 1) ∷ refusal 2 0 ∷ refusal 22 0 ∷ refusal 22 0 ∷ refusal 23 0 ∷ refusal 23 0
    ∷ refusal 23 0 ∷ refusal 23 0 ∷ refusal 23 0 ∷ goes_on ∷ goes_on ∷ given (Input 1) ∷ right ∷ given (Input 0) ∷ right ∷ given Reset
    ∷ given (Input 1) ∷ right ∷ given Pass ∷ [])

-- before a test has begun any test may change; the last begun may not; with none left the next step is pass
unfoldable pub early : Row
early =
    row p2 (swap tested ∷ swap untested ∷ swap p2 ∷ go ∷ swap tested ∷ swap faultless ∷ [])
    (goes_on ∷ goes_on ∷ goes_on ∷ given Reset ∷ refusal 23 0 ∷ goes_on ∷ [])

unfoldable pub empty : Row
empty = row untested (go ∷ go ∷ []) (given Pass ∷ given Pass ∷ [])

-- what the rows compute with
unfoldable stationing : Unit {0}
unfolding computing longer waking faultless sized silent ruled tested untested poor specified_from specified beginning suited current input_at nexting expected taking same head_bytes agrees changing driven
stationing = tt

pub passed-holds : Holds passed
unfolding stationing passed passing
passed-holds = (refl, refl)

pub failed-holds : Holds failed
unfolding stationing failed failing
failed-holds = (refl, refl)

pub changed-holds : Holds changed
unfolding stationing changed changing-mid
changed-holds = (refl, refl)

pub early-holds : Holds early
unfolding stationing early
early-holds = (refl, refl)

pub empty_holds : Holds empty
unfolding stationing empty
empty_holds = (refl, refl)

-- a sheet that is refused, and one whose list is not complete
pub begins-not : (beginning [] ≡ refused 2 0) × (beginning p1 ≡ refused 22 0)
unfolding stationing
begins-not = (refl, refl)

-- ---- what the implementation got in them, once each, and what the verdicts mean there
pub got : got_in (calls p2 passing) ≡ reset ∷ input 0 ∷ input 1 ∷ input 0 ∷ []
unfolding stationing passing got_from
got = refl

pub gave : taken_in (calls p2 passing) ≡ 1 ∷ 1 ∷ 1 ∷ []
unfolding stationing passing taken_in
gave = refl

pub pass-means : PassMeans p2 (calls p2 passing)
unfolding stationing passing At
pass-means = pass-told p2 (calls p2 passing) (history p2 passing refl) (some_at GivesPass 14 (calls p2 passing) refl)

abbrev third : Place
third = record { test = 0; position = 2 }

pub failure-means : FailureMeans p2 (calls p2 failing) third
unfolding stationing failing At
failure-means = failure-told p2 (calls p2 failing) (history p2 failing refl) third (some_at (GivesFailure third) 6 (calls p2 failing) refl)
