-- 02's Point 1: the sheet of tables in a buffer.
use Rattle.std.specs.Prelude.{Result as Answer}
use Rattle.std.specs.Prelude.{Ok, Err, ℕ, ◌≤◌, ◌<◌, ◌≡◌, cond, List, [], ltb, length, take}
use Rattle.sheet.specs.Sheet.{Sheet}
use Rattle.sheet.specs.Reading.{Result, accepted, refused, Reading, reading}
use Rattle.sheet.specs.Encode.{encode}
use Rattle.sheet.specs.declared.Refusal.{Refusal}
use Rattle.sheet.specs.Tables.{refusal_of, answer_by}
use Rattle.writing.specs.declared.Drawing.{Drawing as Lent}
use Rattle.writing.specs.Drawing.{Drawing, Whole, drawing, is_cut, sheet_of, drawing_of}

-- the tables that are lent
abbrev pub drawn : Lent → Drawing
drawn d = drawing d.size d.quiet d.rules.now d.faults.now d.starts.now d.lengths.now d.presses.now

-- bytes that read so, in a buffer with so much room: what reading refuses, at place 0, then 16
abbrev pub placed : Reading → List ℕ → ℕ → Result (List ℕ)
placed (accepted sh) s room = cond (ltb room (length s)) (refused 16 0) (accepted s)
placed (refused number place) s room = refused number 0

-- 2 for cut tables; then what becomes of their sheet
unfoldable pub writing : Drawing → ℕ → Result (List ℕ)
writing d room = cond (is_cut d) (refused 2 0) (placed (reading (encode (sheet_of d))) (encode (sheet_of d)) room)

-- the answer: the sheet's length, or the refusal
abbrev pub written_answer : Result (List ℕ) → Answer ℕ Refusal
written_answer r = answer_by (λ s. length s) r

-- what is written: the sheet; nothing on a refusal
abbrev pub sheet_writes : Result (List ℕ) → List ℕ
sheet_writes (accepted s) = s
sheet_writes (refused number place) = []

-- the bytes are an accepted sheet, and its sizes, QUIET, rules, faults, STARTs and tests are those of the tables
pub record Spells (d : Drawing) (s : List ℕ) : Type 0 where
  pub sheet : Sheet
  pub reads : reading s ≡ accepted sheet
  pub tables : drawing_of sheet ≡ d

-- refused by this number at place 0, and the buffer is as lent
pub record Refuses (number : ℕ) (r : Answer ℕ Refusal) (old new : List ℕ) : Type 0 where
  pub answer : r ≡ Err (refusal_of number 0)
  pub untouched : new ≡ old

-- the answer is the sheet's length, and the buffer begins with the sheet
pub record Writes (s : List ℕ) (r : Answer ℕ Refusal) (new : List ℕ) : Type 0 where
  pub answer : r ≡ Ok (length s)
  pub front : take (length s) new ≡ s

-- 02's sentences in their order, of the answer and of the buffer as lent and after it; tables that are whole are a sheet's
pub record ToldWritten (d : Drawing) (r : Answer ℕ Refusal) (old new : List ℕ) : Type 0 where
  -- a cut row, or lengths that do not add up to the presses
  pub cut : (Whole d → ⊥) → Refuses 2 r old new
  -- then what reading refuses in the sheet of these tables
  pub unread : (sh : Sheet) (number place : ℕ) → drawing_of sh ≡ d → reading (encode sh) ≡ refused number place → Refuses number r old new
  -- then a buffer shorter than that sheet
  pub short : (s : List ℕ) (sh : Sheet) → drawing_of sh ≡ d → reading s ≡ accepted sh → length old < length s → Refuses 16 r old new
  -- what is written spells the tables
  pub spells : (n : ℕ) → r ≡ Ok n → Spells d (take n new)
  -- and the tables of an accepted sheet yield its bytes
  pub again : (s : List ℕ) (sh : Sheet) → drawing_of sh ≡ d → reading s ≡ accepted sh → length s ≤ length old → Writes s r new
