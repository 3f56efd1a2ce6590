-- What a tray of mutants answers and writes, and what that tells.
use Rattle.std.specs.Prelude.{Result as Answer, Ok, Err}
use Rattle.std.specs.Prelude.{ℕ, ◌+◌, ◌*◌, ◌<◌, ◌≤◌, ◌≡◌, List, [], length, take}
use Rattle.lists.specs.Lists.{overlay}
use Rattle.sheet.specs.declared.Refusal.{Refusal}
use Rattle.sheet.specs.Sheet.{Sheet}
use Rattle.sheet.specs.Reading.{Result, accepted, refused, reading}
use Rattle.sheet.specs.Tables.{answer_by}
use Rattle.model.specs.Mutant.{slots, IsMutant}
use Rattle.model.specs.Operations.{failing}
use Rattle.model.specs.Tray.{board_at, TrayMeans}

-- each mutant was tried, or why the tray is refused
abbrev pub Tried : Type 0
Tried = Answer (Unit {0}) Refusal

abbrev pub tried_answer : Result (List ℕ) → Tried
tried_answer r = answer_by (λ results. tt) r

-- what is written: a number for each mutant; nothing on a refusal
abbrev pub tried_writes : Result (List ℕ) → List ℕ
tried_writes (accepted results) = results
tried_writes (refused number place) = []

-- an answer, and what it leaves in the results
pub record Tries (o : Result (List ℕ)) (r : Tried) (old new : List ℕ) : Type 0 where
  pub answer : r ≡ tried_answer o
  pub numbers : new ≡ overlay (tried_writes o) old

-- the choice at this index in the tray is too high: taken singly its board is refused for it, and each board before is a mutant
pub record HighMeans (s : List ℕ) (sh : Sheet) (boards : ℕ) (tray : List ℕ) (place : ℕ) : Type 0 where
  pub board : ℕ
  pub index : ℕ
  pub is : board < boards
  pub at : place ≡ board * length (slots sh) + index
  pub before : (i : ℕ) → i < board → IsMutant sh (board_at sh tray i)
  pub alone : failing s (board_at sh tray board) ≡ refused 14 index

-- at the front of the results stands what First failed test answers of each board alone; or 14, for the first board that it refuses
abbrev pub TriedSays : List ℕ → Sheet → ℕ → List ℕ → Tried → List ℕ → Type 0
TriedSays s sh boards tray (Ok u) results = TrayMeans s sh boards tray (take boards results)
TriedSays s sh boards tray (Err why) results = (why.number ≡ 14) × HighMeans s sh boards tray why.place

-- of an accepted sheet, so many boards, and a number for each
unfoldable pub ToldTried : List ℕ → ℕ → List ℕ → ℕ → Tried → List ℕ → Type 0
ToldTried s boards tray room r results =
    (sh : Sheet) → reading s ≡ accepted sh → length tray ≡ boards * length (slots sh) → boards ≤ room → TriedSays s sh boards tray r results
