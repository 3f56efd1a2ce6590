use Rattle.walks.proofs.ReachLaw.{WithinTo}
use Rattle.walks.proofs.reach.all_within.Given as goal

abbrev pub invariant-loop-s : goal.invariant-loop-s
invariant-loop-s l = WithinTo l.rows l.done l.s
