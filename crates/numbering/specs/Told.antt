-- What renumbering tells (02's Point 12).
use Rattle.std.specs.Prelude.{Result as Answer}
use Rattle.std.specs.Prelude.{Ok, Err, ℕ, ◌≤◌, ◌<◌, ◌≡◌, List, length, take}
use Rattle.sheet.specs.declared.Refusal.{Refusal}
use Rattle.sheet.specs.Sheet.{Sheet}
use Rattle.sheet.specs.Reading.{accepted, refused, reading}
use Rattle.sheet.specs.Tables.{refusal_of}
use Rattle.writing.specs.Writing.{Refuses}
use Rattle.renaming.specs.Renaming.{Numbers}

-- 02's sentences in their order, of the answer and of the buffer as lent and after it
pub record ToldNumbered (s : List ℕ) (r : Answer ℕ Refusal) (old new : List ℕ) : Type 0 where
  -- a sheet refused on reading ends it with the same number and place
  pub unread : (number place : ℕ) → reading s ≡ refused number place → (r ≡ Err (refusal_of number place)) × (new ≡ old)
  -- then a buffer shorter than the sheet
  pub short : (sh : Sheet) → reading s ≡ accepted sh → length old < length s → Refuses 16 r old new
  -- every other sheet is converted
  pub numbers : (sh : Sheet) → reading s ≡ accepted sh → length s ≤ length old → (r ≡ Ok (length s)) × Numbers s sh (take (length s) new)
