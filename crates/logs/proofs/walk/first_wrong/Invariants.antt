-- `first_wrong`: the mutant gives the observations before i.
use Rattle.std.specs.Prelude.{◌-◌}
use Rattle.lists.specs.Proving.{length}
use Rattle.logs.proofs.WrongLaw.{Walking}
use Rattle.logs.proofs.walk.first_wrong.Given as goal

abbrev pub invariant-loop-i : goal.invariant-loop-i
invariant-loop-i l = Walking l.outputs l.targets l.start l.log l.s l.begun l.position l.i

abbrev pub decreases-loop-i : goal.decreases-loop-i
decreases-loop-i l = length l.log - l.i
