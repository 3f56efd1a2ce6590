use Rattle.cubes.specs.laws.FreeLaw.{AllTo}
use Rattle.cubes.proofs.tables.enter_all.Given as goal

abbrev pub invariant-loop-k : goal.invariant-loop-k
invariant-loop-k l = AllTo l.block l.facts l.k
