-- `first_high`: the boards before `at` have no choice that is too high.
use Rattle.std.specs.Prelude.{◌-◌, ◌*◌, ◌≡◌}
use Rattle.lists.specs.Proving.{ℕ, length}
use Rattle.sheet.specs.Sheet.{Sheet}
use Rattle.model.specs.Mutant.{slots}
use Rattle.block.specs.Tabled.{Tabled}
use Rattle.tray.proofs.HighLaw.{LowTo}
use Rattle.tray.proofs.fitting.first_high.Given as goal

abbrev pub invariant-loop-at : goal.invariant-loop-at
invariant-loop-at l = (sh : Sheet) → Tabled sh l.block → (boards : ℕ) → length l.tray ≡ boards * length (slots sh) → LowTo (slots sh) boards l.tray l.at

abbrev pub decreases-loop-at : goal.decreases-loop-at
decreases-loop-at l = length l.tray - l.at
