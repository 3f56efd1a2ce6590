-- What making answers and writes.
use Rattle.std.specs.Prelude.{Result as Answer, Ok, Err}
use Rattle.std.specs.Prelude.{ℕ, ◌≤◌, ◌≡◌, List, [], length, take}
use Rattle.lists.specs.Lists.{overlay}
use Rattle.sheet.specs.Sheet.{Sheet}
use Rattle.sheet.specs.Encode.{encode}
use Rattle.sheet.specs.Reading.{Result, accepted, refused, reading}
use Rattle.model.specs.Making.{Grown, MadeComplete, NoRoom}
use Rattle.sheet.specs.declared.Refusal.{Refusal}
use Rattle.sheet.specs.Tables.{answer_by}
use Rattle.making.specs.declared.Made.{Made}

-- the made sheet's length and how many tests were appended
abbrev pub made_of : Grown → Made
made_of g = record { length = length (encode g.sheet); appended = g.appended }

-- what it answers
abbrev pub MadeAnswer : Type 0
MadeAnswer = Answer Made Refusal

abbrev pub made_answer : Result Grown → MadeAnswer
made_answer r = answer_by made_of r

-- what is written: the made sheet; nothing on a refusal
abbrev pub made_writes : Result Grown → List ℕ
made_writes (accepted g) = encode g.sheet
made_writes (refused number place) = []

-- an answer, and what it leaves in the buffer
pub record Makes (result : Result Grown) (r : MadeAnswer) (old new : List ℕ) : Type 0 where
  pub answer : r ≡ made_answer result
  pub bytes : new ≡ overlay (made_writes result) old

-- the bytes are an accepted sheet: the same machine, the original suite at its front and so many tests appended, each of them needed;
-- complete, with the lasting guarantee
pub record MadeOf (sh : Sheet) (appended : ℕ) (bytes : List ℕ) : Type 0 where
  pub sheet : Sheet
  pub reads : reading bytes ≡ accepted sheet
  pub made : MadeComplete sh sheet appended

-- the made sheet stands at the buffer's front; or 18 at 0, as the next sequence to be appended does not fit
abbrev pub MadeSays : Sheet → MadeAnswer → List ℕ → Type 0
MadeSays sh (Ok made) buffer = MadeOf sh made.appended (take made.length buffer)
MadeSays sh (Err why) buffer = (why.number ≡ 18) × (why.place ≡ 0) × NoRoom sh

-- of an accepted sheet with room in the buffer
unfoldable pub ToldMade : List ℕ → ℕ → MadeAnswer → List ℕ → Type 0
ToldMade s room r buffer = (sh : Sheet) → reading s ≡ accepted sh → 16384 ≤ room → MadeSays sh r buffer
