use Rattle.cubes.specs.laws.JoinLaw.{MeetsTo}
use Rattle.cubes.proofs.gather.meet_in.Given as goal

abbrev pub invariant-loop-j : goal.invariant-loop-j
invariant-loop-j l = MeetsTo l.initial.all l.cube l.all l.j
