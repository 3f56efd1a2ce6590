use Rattle.pairs.specs.Meeting.{Free}
use Rattle.pairs.proofs.reach.Reach.walk_pair.Given as goal

abbrev pub invariant-loop-x : goal.invariant-loop-x
invariant-loop-x l = Free l.cube l.initial.self.first → Free l.cube l.self.first
