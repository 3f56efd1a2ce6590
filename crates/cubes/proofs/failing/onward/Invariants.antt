use Rattle.cubes.specs.laws.WalkLaw.{OnTo}
use Rattle.cubes.proofs.failing.onward.Given as goal

abbrev pub invariant-loop-q : goal.invariant-loop-q
invariant-loop-q l = OnTo l.block l.cube l.set l.x l.o l.next l.q
