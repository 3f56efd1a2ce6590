-- A press as an answer of the code.
use Rattle.std.specs.Prelude.{Result as Answer}
use Rattle.std.specs.Prelude.{ℕ}
use Rattle.sheet.specs.declared.Refusal.{Refusal}
use Rattle.sheet.specs.Reading.{Result}
use Rattle.sheet.specs.Tables.{answer_by}

abbrev pub pressed_answer : Result ℕ → Answer ℕ Refusal
pressed_answer r = answer_by (λ t. t) r
