-- What judge answers and writes.
use Rattle.std.specs.Prelude.{Result as Answer, Ok, Err}
use Rattle.std.specs.Prelude.{Option as Maybe, Some, None}
use Rattle.std.specs.Prelude.{ℕ, ◌*◌, ◌≤◌, ◌≡◌, List, [], length, take}
use Rattle.lists.specs.Lists.{overlay}
use Rattle.sheet.specs.declared.Refusal.{Refusal}
use Rattle.sheet.specs.Sheet.{Sheet}
use Rattle.sheet.specs.Reading.{Result, accepted, refused, reading}
use Rattle.sheet.specs.Tables.{answer_by}
use Rattle.model.specs.Mutant.{slots}
use Rattle.model.specs.Suite.{Judgement, complete, survivor}
use Rattle.model.specs.Implementation.{Guaranteed}
use Rattle.model.specs.Verdict.{Complete, FirstSurvivor, ShortestOf}

-- complete, or the length of the first survivor's sequence
abbrev pub judgement_answer : Judgement → Maybe ℕ
judgement_answer complete = None
judgement_answer (survivor b xs) = Some (length xs)

-- 01's numbers and values for each case
abbrev pub judged_answer : Result Judgement → Answer (Maybe ℕ) Refusal
judged_answer r = answer_by judgement_answer r

-- what judge writes: the survivor's choices, and its distinguishing sequence
abbrev pub survivor_in : Judgement → List ℕ
survivor_in complete = []
survivor_in (survivor b xs) = b

abbrev pub sequence_in : Judgement → List ℕ
sequence_in complete = []
sequence_in (survivor b xs) = xs

abbrev pub board_writes : Result Judgement → List ℕ
board_writes (accepted j) = survivor_in j
board_writes (refused number place) = []

abbrev pub sequence_writes : Result Judgement → List ℕ
sequence_writes (accepted j) = sequence_in j
sequence_writes (refused number place) = []

-- an answer, and what it leaves in both buffers
pub record Judges (result : Result Judgement) (r : Answer (Maybe ℕ) Refusal) (old_board new_board old_sequence new_sequence : List ℕ) : Type 0 where
  pub answer : r ≡ judged_answer result
  pub board : new_board ≡ overlay (board_writes result) old_board
  pub sequence : new_sequence ≡ overlay (sequence_writes result) old_sequence

-- a number lent for a measurement: as it was on a refusal; otherwise free
abbrev pub Measured : Answer (Maybe ℕ) Refusal → ℕ → ℕ → Type 0
Measured (Ok judged) old new = Unit {0}
Measured (Err why) old new = new ≡ old

-- demand 3, of the answer and the buffers: complete, with the lasting guarantee; or the first survivor stands at the board
-- buffer's front, and its shortest distinguishing sequence at the sequence buffer's
abbrev pub JudgedSays : Sheet → Answer (Maybe ℕ) Refusal → List ℕ → List ℕ → Type 0
JudgedSays sh (Ok None) board sequence = Complete sh × Guaranteed sh
JudgedSays sh (Ok (Some d)) board sequence =
    FirstSurvivor sh (take (length (slots sh)) board) × ShortestOf sh (take (length (slots sh)) board) (take d sequence)
JudgedSays sh (Err why) board sequence = ⊥

-- and exactly: it answers complete where, and only where, every nonconforming mutant fails some test
pub record SaysOf (sh : Sheet) (r : Answer (Maybe ℕ) Refusal) (board sequence : List ℕ) : Type 0 where
  pub means : JudgedSays sh r board sequence
  pub only : r ≡ Ok None → Complete sh
  pub every : Complete sh → r ≡ Ok None

-- of an accepted sheet with room in both buffers
unfoldable pub ToldJudged : List ℕ → ℕ → ℕ → Answer (Maybe ℕ) Refusal → List ℕ → List ℕ → Type 0
ToldJudged s board_room sequence_room r board sequence =
    (sh : Sheet) → reading s ≡ accepted sh → length (slots sh) ≤ board_room → sh.size.states * sh.size.states ≤ sequence_room →
    SaysOf sh r board sequence
