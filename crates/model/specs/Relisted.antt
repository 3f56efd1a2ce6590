-- Sheets that differ in their tests alone, and what becomes of a verdict when tests are added (02, Point 14: shuffled and longer lists).
use Rattle.std.specs.Prelude.{ℕ, ◌≡◌, ◌⊎◌, List}
use Rattle.lists.specs.Lists.{Before}
use Rattle.sheet.specs.Sheet.{Sheet}
use Rattle.sheet.specs.Reading.{Result, accepted, refused, reading, with_tests}
use Rattle.model.specs.Suite.{Judgement, complete, survivor}

-- the bytes s and t are accepted sheets of one machine with the same faults and STARTs; s has the tests ts, t the tests us
pub record Relisted (s t : List ℕ) (ts us : List (List ℕ)) : Type 0 where
  pub machine : Sheet
  pub first : reading s ≡ accepted (with_tests machine ts)
  pub second : reading t ≡ accepted (with_tests machine us)

-- the longer list's verdict, beside a survivor of the shorter one: complete, or that mutant or a later one in dictionary order
abbrev pub NoEarlier : List ℕ → Judgement → Type 0
NoEarlier b complete = Unit {0}
NoEarlier b (survivor c ys) = (c ≡ b) ⊎ Before b c

-- the answer after tests were added, beside the answer before: complete stays complete, a survivor is no earlier one, a refusal stays
abbrev pub Advances : Result Judgement → Result Judgement → Type 0
Advances (refused number place) r = r ≡ refused number place
Advances (accepted complete) r = r ≡ accepted complete
Advances (accepted (survivor b xs)) r = (j : Judgement) × (r ≡ accepted j) × NoEarlier b j
