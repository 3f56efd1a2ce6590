-- 02's Point 8, of whole walks: takes and tests added, one after another, from a sheet's bytes.
use Rattle.std.specs.Prelude.{Result as Answer, Ok, Err, Some, None}
use Rattle.std.specs.Prelude.{ℕ, ◌*◌, ◌≤◌, ◌≡◌, ◌⊎◌, length, take}
use Rattle.std.proofs.Math.Option.{none, some}
use mathlib.Core.List.{List, [], ◌∷◌, ◌++◌, map, Memᴰ}
use Rattle.lists.specs.Lists.{All, Ascending, Before}
use Rattle.sheet.specs.declared.Refusal.{Refusal}
use Rattle.sheet.specs.Sheet.{Sheet}
use Rattle.sheet.specs.Reading.{accepted, reading, with_tests}
use Rattle.adding.specs.Adding.{adding, Adds}
use Rattle.model.specs.Mutant.{slots, IsMutant}
use Rattle.model.specs.Suite.{Passes, Judgement, complete, judge_of, or_else}
use Rattle.model.specs.Verdict.{ComparedMeans}
use Rattle.model.specs.Walk.{Standing, start, after, end, taking, Remains}
use Rattle.model.specs.Walk.{Taken as Next}
use Rattle.model.proofs.laws.WalkLaw.{Once}
use Rattle.walking.specs.Taking.{Taken, Takes, LastIs}

-- ---- calls
-- a take: both buffers as lent, the answer, and the buffers after it
pub record TakeCall : Type 0 where
  pub board : List ℕ
  pub sequence : List ℕ
  pub answer : Taken
  pub new_board : List ℕ
  pub new_sequence : List ℕ

-- a test added: its presses, the buffer as lent, the answer, and the buffer after it
pub record AddCall : Type 0 where
  pub presses : List ℕ
  pub buffer : List ℕ
  pub answer : Answer ℕ Refusal
  pub new_buffer : List ℕ

pub data Call : Type 0 where
  took : TakeCall → Call
  added : AddCall → Call

-- what is kept between calls: the sheet's bytes and the walk's place
pub record Walk : Type 0 where
  pub sheet : List ℕ
  pub place : Standing

abbrev pub walk_at : List ℕ → Standing → Walk
walk_at s place = record { sheet = s; place = place }

-- the place that a take leaves: the mutant taken, at the board buffer's front, is the last; a mutant has n choices
abbrev pub place_after : ℕ → Standing → Taken → List ℕ → Standing
place_after n place (Ok (Some found)) board = after (take n board)
place_after n place (Ok None) board = end
place_after n place (Err why) board = place

-- the sheet that an addition leaves: the longer one, at the buffer's front
abbrev pub sheet_after : List ℕ → Answer ℕ Refusal → List ℕ → List ℕ
sheet_after s (Ok n) buffer = take n buffer
sheet_after s (Err why) buffer = s

abbrev pub leaves : ℕ → Walk → Call → Walk
leaves n w (took t) = walk_at w.sheet (place_after n w.place t.answer t.new_board)
leaves n w (added a) = walk_at (sheet_after w.sheet a.answer a.new_buffer) w.place

-- a call answers as `take` and `add_test` promise
abbrev pub Promised : Walk → Call → Type 0
Promised w (took t) = Takes (taking w.sheet w.place (length t.board) (length t.sequence)) t.answer t.board t.new_board t.sequence t.new_sequence
Promised w (added a) = Adds (adding w.sheet a.presses (length a.buffer)) a.answer a.buffer a.new_buffer

-- each call takes the sheet and the place that the one before left
unfoldable pub Chained : ℕ → Walk → List Call → Type 0
Chained n w [] = Unit {0}
Chained n w (c ∷ calls) = Promised w c × Chained n (leaves n w c) calls

-- what all calls leave
unfoldable pub left : ℕ → Walk → List Call → Walk
left n w [] = w
left n w (c ∷ calls) = left n (leaves n w c) calls

-- ---- what the answers show
-- the mutant taken, with compare's answer
abbrev pub shown : ℕ → Taken → List ℕ → List ℕ → List Next
shown n (Ok (Some None)) board sequence = record { mutant = take n board; compared = none } ∷ []
shown n (Ok (Some (Some d))) board sequence = record { mutant = take n board; compared = some (take d sequence) } ∷ []
shown n (Ok None) board sequence = []
shown n (Err why) board sequence = []

unfoldable pub taken_in : ℕ → List Call → List Next
taken_in n [] = []
taken_in n (took t ∷ calls) = shown n t.answer t.new_board t.new_sequence ++ taken_in n calls
taken_in n (added a ∷ calls) = taken_in n calls

abbrev pub mutants_in : ℕ → List Call → List (List ℕ)
mutants_in n calls = map (λ (t : Next). t.mutant) (taken_in n calls)

-- the tests added
abbrev pub test_of : Answer ℕ Refusal → List ℕ → List (List ℕ)
test_of (Ok n) xs = xs ∷ []
test_of (Err why) xs = []

unfoldable pub tests_in : List Call → List (List ℕ)
tests_in [] = []
tests_in (took t ∷ calls) = tests_in calls
tests_in (added a ∷ calls) = test_of a.answer a.presses ++ tests_in calls

-- the first departing one of those taken, with its sequence
unfoldable pub first_departing : List Next → Judgement
first_departing [] = complete
first_departing (t ∷ ts) = let more = first_departing ts in or_else t.mutant t.compared more

-- ---- walks
-- calls from the start of a walk over an accepted sheet
pub record History (sh : Sheet) (s : List ℕ) (calls : List Call) : Type 0 where
  pub reads : reading s ≡ accepted sh
  pub chained : Chained (length (slots sh)) (walk_at s start) calls

abbrev pub left_by : Sheet → List ℕ → List Call → Walk
left_by sh s calls = left (length (slots sh)) (walk_at s start) calls

abbrev pub mutants_of : Sheet → List Call → List (List ℕ)
mutants_of sh calls = mutants_in (length (slots sh)) calls

abbrev pub taken_of : Sheet → List Call → List Next
taken_of sh calls = taken_in (length (slots sh)) calls

-- the sheet with the tests that were added, the last
abbrev pub longer : Sheet → List Call → Sheet
longer sh calls = with_tests sh (sh.tests ++ tests_in calls)

-- of every walk: the sheet that it leaves is accepted, the same machine with the tests added last, and its place is one of that sheet's; those
-- taken stand in dictionary order, none twice; each is a mutant, with compare's answer; and a mutant that passes the list as it is at last was
-- taken, or is still to come
pub record EveryWalk (sh : Sheet) (s : List ℕ) (calls : List Call) : Type 0 where
  pub sheet : reading (left_by sh s calls).sheet ≡ accepted (longer sh calls)
  pub last : LastIs (longer sh calls) (left_by sh s calls).place
  pub ascend : Ascending Before (mutants_of sh calls)
  pub mutants : All (IsMutant sh) (mutants_of sh calls)
  pub compared : All (λ (t : Next). ComparedMeans sh t.mutant t.compared) (taken_of sh calls)
  pub every : (b : List ℕ) → IsMutant sh b → Passes (longer sh calls) b → Memᴰ b (mutants_of sh calls) ⊎ Remains (longer sh calls) (left_by sh s calls).place b

-- 02: over a walk to its end with no test added every passing mutant comes up exactly once, and none else; judge shows the first departing one, or
-- complete if it has none
pub record WholeWalk (sh : Sheet) (calls : List Call) : Type 0 where
  pub every : (b : List ℕ) → IsMutant sh b → Passes sh b → Once b (mutants_of sh calls)
  pub only : (b : List ℕ) → Memᴰ b (mutants_of sh calls) → IsMutant sh b × Passes sh b
  pub judge : judge_of sh ≡ first_departing (taken_of sh calls)

-- 02: after tests were added by the calls `before`, boards already taken stand, and the rest of the walk is exactly the later boards that
-- pass the longer list
pub record RestOfWalk (sh : Sheet) (s : List ℕ) (before calls : List Call) : Type 0 where
  pub stand : mutants_of sh (before ++ calls) ≡ mutants_of sh before ++ mutants_of sh calls
  pub every : (b : List ℕ) → Remains (longer sh before) (left_by sh s before).place b → Once b (mutants_of sh calls)
  pub only : (b : List ℕ) → Memᴰ b (mutants_of sh calls) → Remains (longer sh before) (left_by sh s before).place b

-- with room in both buffers a take gives the end
abbrev pub GivesEnd : Sheet → Call → Type 0
GivesEnd sh (took t) = length (slots sh) ≤ length t.board → sh.size.states * sh.size.states ≤ length t.sequence → t.answer ≡ Ok None
GivesEnd sh (added a) = Unit {0}
