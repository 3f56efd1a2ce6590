use Rattle.cubes.specs.Cube.{In}
use Rattle.cubes.specs.laws.ConformLaw.{LineTo}
use Rattle.cubes.proofs.conform.line_closed.Given as goal

abbrev pub invariant-loop-b : goal.invariant-loop-b
invariant-loop-b l = LineTo l.block (In l.block l.cube) l.pairs l.a l.b
