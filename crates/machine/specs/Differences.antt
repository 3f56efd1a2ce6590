-- What the search for a difference answers.
use Rattle.std.specs.Prelude.{Option as Maybe, Some, None}
use Rattle.std.specs.Prelude.{ℕ, List, length}
use Rattle.std.proofs.Math.Option.{Option, none, some}

-- nothing, or the length of a distinguishing sequence
abbrev pub Difference : Type 0
Difference = Maybe ℕ

abbrev pub difference_of : Option (List ℕ) → Difference
difference_of none = None
difference_of (some xs) = Some (length xs)
