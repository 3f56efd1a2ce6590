use Rattle.std.specs.Prelude.{◌-◌}
use Rattle.walks.proofs.ReachLaw.{Spreading}
use Rattle.walks.proofs.reach.spread.Given as goal

abbrev pub invariant-loop-n : goal.invariant-loop-n
invariant-loop-n l = Spreading l.block l.p l.rows l.done l.reach

abbrev pub decreases-loop-n : goal.decreases-loop-n
decreases-loop-n l = 256 - l.n
