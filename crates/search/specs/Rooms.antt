-- Room in both buffers: for a mutant's choices, and for any shortest distinguishing sequence.
use Rattle.std.specs.Prelude.{Result as Answer}
use Rattle.std.specs.Prelude.{ℕ, ◌*◌, ltb, length}
use Rattle.sheet.specs.declared.Refusal.{Refusal}
use Rattle.sheet.specs.Sheet.{Sheet}
use Rattle.sheet.specs.Reading.{Result, accepted, refused}
use Rattle.sheet.specs.Tables.{answer_by}
use Rattle.model.specs.Mutant.{slots}
use Rattle.model.specs.Operations.{refuse_if}

-- 16 where there is none
abbrev pub with_room : {A : Type 0} → Sheet → ℕ → ℕ → Result A → Result A
with_room sh board sequence r =
    refuse_if (ltb board (length (slots sh))) 16 0 (refuse_if (ltb sequence (sh.size.states * sh.size.states)) 16 1 r)

unfoldable pub room_of : Sheet → ℕ → ℕ → Answer (Unit {0}) Refusal
room_of sh board sequence = answer_by (λ u. u) (with_room sh board sequence (accepted tt))
