use Rattle.block.specs.Layout.{pair}
use Rattle.mirror.specs.Mirror.{Below}
use Rattle.mirror.specs.Reflect.{Quiet}
use Rattle.mirror.proofs.reflection.silent.Given as goal

abbrev pub invariant-loop-x : goal.invariant-loop-x
invariant-loop-x it = Below (λ y. Quiet it.block it.cube (pair it.s y)) it.x
