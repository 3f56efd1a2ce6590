-- An option of the definitions, and the same as the code has it.
use Rattle.std.specs.Prelude.{Option as Maybe, Some, None}
use Rattle.std.proofs.Math.Option.{Option, none, some}

abbrev pub coded : {A : Type 0} → Option A → Maybe A
coded none = None
coded (some a) = Some a

abbrev pub meant : {A : Type 0} → Maybe A → Option A
meant None = none
meant (Some a) = some a
