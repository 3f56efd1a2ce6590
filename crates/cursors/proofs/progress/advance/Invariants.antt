use Rattle.std.specs.Prelude.{◌-◌}
use Rattle.lists.specs.Proving.{length}
use Rattle.cursors.proofs.progress.advance.Given as goal

abbrev pub decreases-loop-at : goal.decreases-loop-at
decreases-loop-at l = length l.log - l.at
