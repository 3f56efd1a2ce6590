use Rattle.cubes.specs.Cube.{In}
use Rattle.cubes.specs.laws.ConformLaw.{RowTo}
use Rattle.cubes.proofs.conform.row_closed.Given as goal

abbrev pub invariant-loop-x : goal.invariant-loop-x
invariant-loop-x l = RowTo l.block (In l.block l.cube) l.pairs l.a l.b l.x
