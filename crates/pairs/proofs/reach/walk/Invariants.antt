use Rattle.pairs.specs.Meeting.{Free}
use Rattle.pairs.proofs.reach.walk.Given as goal

abbrev pub invariant-loop-h : goal.invariant-loop-h
invariant-loop-h l = Free l.cube l.reach.first
