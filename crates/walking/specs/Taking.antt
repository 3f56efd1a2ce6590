-- What take answers and writes (02, Point 8).
use Rattle.std.specs.Prelude.{Result as Answer, Ok, Err, Option as Maybe, Some, None}
use Rattle.std.specs.Prelude.{ℕ, ◌*◌, ◌≤◌, ◌≡◌, List, [], length, take}
use Rattle.std.proofs.Math.Option.{Option, none, some}
use Rattle.lists.specs.Lists.{overlay}
use Rattle.sheet.specs.declared.Refusal.{Refusal}
use Rattle.sheet.specs.Sheet.{Sheet}
use Rattle.sheet.specs.Reading.{Result, accepted, refused, reading}
use Rattle.sheet.specs.Tables.{answer_by}
use Rattle.model.specs.Mutant.{slots, IsMutant, Conforming}
use Rattle.model.specs.Compare.{found}
use Rattle.model.specs.Verdict.{ShortestOf}
use Rattle.model.specs.Walk.{Standing, start, after, end, with_standing, Remains, FirstRemaining}
use Rattle.model.specs.Walk.{Taken as Next}
use Rattle.machine.specs.Differences.{Difference, difference_of}
use Rattle.machine.specs.Fits.{fit_answer}
use Rattle.search.specs.Search.{LastOk}
use Rattle.search.specs.declared.settle.Beginning.{Beginning}
use Rattle.search.specs.declared.settle.Beginning.TheVariants.{Front, After}
use Rattle.walking.specs.declared.Place.{Place}
use Rattle.walking.specs.declared.Place.TheVariants as place

-- a mutant with what tells it from the specification, none at the walk's end; or why the take is refused
abbrev pub Taken : Type 0
Taken = Answer (Maybe Difference) Refusal

-- the place of a walk: of the mutant beside it only `Last` speaks
abbrev pub standing : Place → List ℕ → Standing
standing place.Start last = start
standing place.Last last = after last
standing place.End last = end

-- where a search begins
abbrev pub standing_from : Beginning → Standing
standing_from Front = start
standing_from (After last) = after last.now

-- what a take from a place begins with, nothing at the end; or why the last mutant taken is refused
abbrev pub Begins : Sheet → Standing → Answer (Maybe Beginning) Refusal → Type 0
Begins sh at (Ok None) = at ≡ end
Begins sh at (Ok (Some from)) = (at ≡ standing_from from) × LastOk from sh
Begins sh at (Err why) = fit_answer (with_standing sh at (accepted tt)) ≡ Err why

-- compare's answer, none at the end
abbrev pub next_taken : Option Next → Maybe Difference
next_taken none = None
next_taken (some t) = Some (difference_of t.compared)

abbrev pub taken_answer : Result (Option Next) → Taken
taken_answer r = answer_by next_taken r

-- what it writes: the mutant's choices, and its distinguishing sequence, if there is one
abbrev pub next_board : Option Next → List ℕ
next_board none = []
next_board (some t) = t.mutant

abbrev pub next_sequence : Option Next → List ℕ
next_sequence none = []
next_sequence (some t) = found t.compared

abbrev pub taken_board : Result (Option Next) → List ℕ
taken_board (accepted o) = next_board o
taken_board (refused number place) = []

abbrev pub taken_sequence : Result (Option Next) → List ℕ
taken_sequence (accepted o) = next_sequence o
taken_sequence (refused number place) = []

-- an answer, and what it leaves in both buffers
pub record Takes (result : Result (Option Next)) (r : Taken) (old_board new_board old_sequence new_sequence : List ℕ) : Type 0 where
  pub answer : r ≡ taken_answer result
  pub board : new_board ≡ overlay (taken_board result) old_board
  pub sequence : new_sequence ≡ overlay (taken_sequence result) old_sequence

-- 02: the next passing board in dictionary order, with the answer of compare, or the end
abbrev pub TakenSays : Sheet → Standing → Taken → List ℕ → List ℕ → Type 0
TakenSays sh at (Ok (Some None)) board sequence = FirstRemaining sh at (take (length (slots sh)) board) × Conforming sh (take (length (slots sh)) board)
TakenSays sh at (Ok (Some (Some d))) board sequence =
    FirstRemaining sh at (take (length (slots sh)) board) × ShortestOf sh (take (length (slots sh)) board) (take d sequence)
TakenSays sh at (Ok None) board sequence = (b : List ℕ) → Remains sh at b → ⊥
TakenSays sh at (Err why) board sequence = ⊥

-- the last mutant taken is one of the sheet
abbrev pub LastIs : Sheet → Standing → Type 0
LastIs sh start = Unit {0}
LastIs sh (after l) = IsMutant sh l
LastIs sh end = Unit {0}

-- of an accepted sheet, a mutant of it if the place is one, and room in both buffers
unfoldable pub ToldTaken : List ℕ → Standing → ℕ → ℕ → Taken → List ℕ → List ℕ → Type 0
ToldTaken s at board_room sequence_room r board sequence =
    (sh : Sheet) → reading s ≡ accepted sh → LastIs sh at → length (slots sh) ≤ board_room → sh.size.states * sh.size.states ≤ sequence_room →
    TakenSays sh at r board sequence
