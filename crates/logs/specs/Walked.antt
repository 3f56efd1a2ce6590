-- What the walk of a tabulated mutant along a log answers.
use Rattle.std.specs.Prelude.{Option as Maybe, Some, None}
use Rattle.std.specs.Prelude.{ℕ, ◌%◌, List, get_or}
use Rattle.std.proofs.Math.Option.{Option, none, some}
use Rattle.model.specs.Machine.{Move}
use Rattle.model.specs.Suite.{Place}
use Rattle.block.specs.Layout.{pair}
use Rattle.logs.specs.declared.walk.Wrong.{Wrong}

-- the machine of two tables, at any state and input
unfoldable pub moves_in : List ℕ → List ℕ → ℕ → ℕ → Move
moves_in outs nexts s x =
    record { output = get_or outs (pair (s % 16) (x % 16)) 0; target = get_or nexts (pair (s % 16) (x % 16)) 0 }

-- the place of a wrong output, as the code has it
abbrev pub wrong_at : Place → Wrong
wrong_at f = record { test = f.test; position = f.position }

abbrev pub wrong_of : Option Place → Maybe Wrong
wrong_of none = None
wrong_of (some f) = Some (wrong_at f)
