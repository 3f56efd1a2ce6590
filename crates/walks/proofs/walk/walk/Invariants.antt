-- `walk`: it stands where it is.
use Rattle.std.specs.Prelude.{◌-◌}
use Rattle.lists.specs.Proving.{length}
use Rattle.walks.specs.Walks.{Stands}
use Rattle.walks.proofs.walk.walk.Given as goal

abbrev pub invariant-loop-here : goal.invariant-loop-here
invariant-loop-here l = Stands l.block l.log l.p l.here

abbrev pub decreases-loop-here : goal.decreases-loop-here
decreases-loop-here l = length l.log - l.here.at
