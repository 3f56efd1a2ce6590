use Rattle.cubes.specs.laws.FreeLaw.{PairTo}
use Rattle.cubes.proofs.tables.enter_pair.Given as goal

abbrev pub invariant-loop-c : goal.invariant-loop-c
invariant-loop-c l = PairTo l.block l.initial.facts l.facts l.k l.c
