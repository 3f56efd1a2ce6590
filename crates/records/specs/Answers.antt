-- What the operations on a record answer and write.
use Rattle.std.specs.Prelude.{Result as Answer, Ok, Err, Option as Maybe, Some, None}
use Rattle.std.specs.Prelude.{ℕ, ◌*◌, ◌≤◌, ◌≡◌, List, [], length, take}
use Rattle.std.proofs.Math.Option.{Option, none, some}
use Rattle.lists.specs.Options.{coded, meant}
use Rattle.sheet.specs.declared.Refusal.{Refusal}
use Rattle.sheet.specs.Sheet.{Sheet}
use Rattle.sheet.specs.Reading.{Result, accepted, refused, reading}
use Rattle.sheet.specs.Tables.{answer_by}
use Rattle.model.specs.Mutant.{rule, slots, Conforming}
use Rattle.model.specs.Verdict.{ShortestOf}
use Rattle.model.specs.Compare.{found}
use Rattle.model.specs.Walk.{Taken}
use Rattle.machine.specs.Differences.{Difference, difference_of}
use Rattle.lists.specs.Lists.{overlay}
use Rattle.block.specs.Tabled.{Tabled}
use Rattle.block.specs.declared.packing.Loaded.{Loaded}
use Rattle.records.specs.Record.{Outcome}
use Rattle.records.specs.Means.{Whole, BrokenAt, FirstDifference, GivenMeans, GivesRecord, FirstGives}
use Rattle.records.specs.declared.Recorded.{Recorded}

abbrev pub recorded_of : Outcome → Recorded
recorded_of o = record { differs = coded o.first; given = o.given }

abbrev pub recorded_answer : Result Outcome → Answer Recorded Refusal
recorded_answer r = answer_by recorded_of r

-- 02: the place of the first SEEN whose sound differs from the specification's, or none; and whether some single board of the sheet gives
-- every sound in the log, yes exactly when one does; 20 at the first broken command
abbrev pub RecordedSays : Sheet → List ℕ → Answer Recorded Refusal → Type 0
RecordedSays sh log (Ok r) = Whole sh log × FirstDifference (rule sh) log (meant r.differs) × GivenMeans sh log r.given
RecordedSays sh log (Err why) = (why.number ≡ 20) × BrokenAt sh log why.place

-- of an accepted sheet
unfoldable pub ToldRecorded : List ℕ → List ℕ → Answer Recorded Refusal → Type 0
ToldRecorded s log r = (sh : Sheet) → reading s ≡ accepted sh → RecordedSays sh log r

-- compare's answer of the first mutant that gives the record, or none does; or why the record is refused
abbrev pub Explained : Type 0
Explained = Answer (Maybe Difference) Refusal

abbrev pub first_explained : Option Taken → Maybe Difference
first_explained none = None
first_explained (some t) = Some (difference_of t.compared)

abbrev pub explained_answer : Result (Option Taken) → Explained
explained_answer r = answer_by first_explained r

-- what it writes: the mutant's choices, and its distinguishing sequence, if there is one
abbrev pub first_board : Option Taken → List ℕ
first_board none = []
first_board (some t) = t.mutant

abbrev pub first_sequence : Option Taken → List ℕ
first_sequence none = []
first_sequence (some t) = found t.compared

abbrev pub explained_board : Result (Option Taken) → List ℕ
explained_board (accepted o) = first_board o
explained_board (refused number place) = []

abbrev pub explained_sequence : Result (Option Taken) → List ℕ
explained_sequence (accepted o) = first_sequence o
explained_sequence (refused number place) = []

-- an answer, and what it leaves in both buffers
pub record Explains (result : Result (Option Taken)) (r : Explained) (old_board new_board old_sequence new_sequence : List ℕ) : Type 0 where
  pub answer : r ≡ explained_answer result
  pub board : new_board ≡ overlay (explained_board result) old_board
  pub sequence : new_sequence ≡ overlay (explained_sequence result) old_sequence

-- the first board that gives the record, at the board buffer's front, with the answer of compare; or none does
abbrev pub ExplainedSays : Sheet → List ℕ → Explained → List ℕ → List ℕ → Type 0
ExplainedSays sh log (Ok (Some None)) board sequence = FirstGives sh log (take (length (slots sh)) board) × Conforming sh (take (length (slots sh)) board)
ExplainedSays sh log (Ok (Some (Some d))) board sequence =
    FirstGives sh log (take (length (slots sh)) board) × ShortestOf sh (take (length (slots sh)) board) (take d sequence)
ExplainedSays sh log (Ok None) board sequence = (b : List ℕ) → GivesRecord sh log b → ⊥
ExplainedSays sh log (Err why) board sequence = (why.number ≡ 20) × BrokenAt sh log why.place

-- of an accepted sheet, with room in both buffers
unfoldable pub ToldExplained : List ℕ → List ℕ → ℕ → ℕ → Explained → List ℕ → List ℕ → Type 0
ToldExplained s log board_room sequence_room r board sequence =
    (sh : Sheet) → reading s ≡ accepted sh → length (slots sh) ≤ board_room → sh.size.states * sh.size.states ≤ sequence_room →
    ExplainedSays sh log r board sequence

-- a sheet that was read: its tables in the block, and how many inputs and outputs there are
pub record Sized (sh : Sheet) (loaded : Loaded) : Type 0 where
  pub tabled : Tabled sh loaded.block
  pub inputs_are : loaded.size.inputs ≡ sh.size.inputs
  pub outputs-are : loaded.size.outputs ≡ sh.size.outputs
