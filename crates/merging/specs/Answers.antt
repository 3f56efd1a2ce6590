-- What merging answers and writes, and what it means.
use Rattle.std.specs.Prelude.{Result as Answer}
use Rattle.std.specs.Prelude.{Ok, Err, ℕ, zero, suc, ◌≡◌, List, [], length, take}
use Rattle.lists.specs.Lists.{overlay}
use Rattle.sheet.specs.Sheet.{Sheet}
use Rattle.sheet.specs.Tables.{refusal_of}
use Rattle.sheet.specs.Reading.{Result, accepted, refused, reading}
use Rattle.model.specs.Mutant.{IsMutant, Conforming}
use Rattle.model.specs.Suite.{complete}
use Rattle.model.specs.Operations.{judging}
use Rattle.renaming.specs.Merging.{Merge, written, turned, merge_of, FailsSome, ToldMerged}
use Rattle.merging.specs.declared.Concerns.{Concerns}
use Rattle.merging.specs.declared.Concerns.TheVariants as concerns
use Rattle.merging.specs.declared.Unmerged.{Unmerged}

-- the sheet that a refusal concerns, by its number: 1 or 2 on reading, otherwise 0
abbrev pub concerned : ℕ → Concerns
concerned zero = concerns.Merged
concerned (suc zero) = concerns.First
concerned (suc (suc n)) = concerns.Second

-- a refusal with the sheet that it concerns, number and place
abbrev pub unmerged_by : Concerns → ℕ → ℕ → Unmerged
unmerged_by which number place = record { concerns = which; why = refusal_of number place }

-- the merged sheet's length; or the sheet that a refusal concerns, number and place
abbrev pub merged_answer : Merge → Answer ℕ Unmerged
merged_answer (written s) = Ok (length s)
merged_answer (turned which number place) = Err (unmerged_by (concerned which) number place)

-- what is written: the merged sheet; nothing on a refusal
abbrev pub merged_writes : Merge → List ℕ
merged_writes (written s) = s
merged_writes (turned which number place) = []

-- refused with the sheet concerned, number and place, and the buffer is as lent
pub record Refuses (which : Concerns) (number place : ℕ) (r : Answer ℕ Unmerged) (old new : List ℕ) : Type 0 where
  pub answer : r ≡ Err (unmerged_by which number place)
  pub untouched : new ≡ old

-- what becomes of two accepted sheets, in 02's sentences, is the answer and what stands in the buffer
pub record Becomes (a b : Sheet) (r : Answer ℕ Unmerged) (old new : List ℕ) : Type 0 where
  pub result : Result Sheet
  pub told : ToldMerged a b (length old) result
  pub answer : r ≡ merged_answer (merge_of result)
  pub bytes : new ≡ overlay (merged_writes (merge_of result)) old

-- the bytes are an accepted sheet, and each nonconforming mutant of sh fails some test in it
pub record FoundBy (bytes : List ℕ) (sh : Sheet) : Type 0 where
  pub sheet : Sheet
  pub reads : reading bytes ≡ accepted sheet
  pub finds : (c : List ℕ) → IsMutant sh c → (Conforming sh c → ⊥) → FailsSome sh c sheet.tests

-- 02's sentences, from the bytes of both sheets and of the buffer as lent and after the answer
pub record ToldMerge (s t : List ℕ) (r : Answer ℕ Unmerged) (old new : List ℕ) : Type 0 where
  -- the first sheet is read first, and a refusal on reading says which sheet it concerns
  pub first : (number place : ℕ) → reading s ≡ refused number place → Refuses concerns.First number place r old new
  pub second : (a : Sheet) (number place : ℕ) → reading s ≡ accepted a → reading t ≡ refused number place → Refuses concerns.Second number place r old new
  -- 16, 21, 8, 12, 1, or the faults, STARTs and tests of both
  pub both : (a b : Sheet) → reading s ≡ accepted a → reading t ≡ accepted b → Becomes a b r old new
  -- if the result is judged complete, each departing board of either sheet fails some test in it
  pub judged : (a b : Sheet) (n board_room sequence_room : ℕ) → reading s ≡ accepted a → reading t ≡ accepted b → r ≡ Ok n →
      judging (take n new) board_room sequence_room ≡ accepted complete → FoundBy (take n new) a × FoundBy (take n new) b
