use Rattle.cubes.specs.Cube.{In}
use Rattle.cubes.specs.laws.ConformLaw.{ClosedTo}
use Rattle.cubes.proofs.conform.closed.Given as goal

abbrev pub invariant-loop-a : goal.invariant-loop-a
invariant-loop-a l = ClosedTo l.block (In l.block l.cube) l.pairs l.a
