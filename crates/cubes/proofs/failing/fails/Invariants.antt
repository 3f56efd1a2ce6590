use Rattle.std.specs.Prelude.{◌-◌}
use Rattle.lists.specs.Proving.{length}
use Rattle.cubes.specs.laws.WalkLaw.{Walking}
use Rattle.cubes.proofs.failing.fails.Given as goal

abbrev pub invariant-loop-at : goal.invariant-loop-at
invariant-loop-at l = Walking l.block l.log l.cube l.at l.set

abbrev pub decreases-loop-at : goal.decreases-loop-at
decreases-loop-at l = length l.log - l.at
