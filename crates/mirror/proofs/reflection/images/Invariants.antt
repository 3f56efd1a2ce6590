use Rattle.mirror.specs.Mirror.{Each}
use Rattle.mirror.specs.Reflect.{Mirrors}
use Rattle.mirror.proofs.reflection.images.Given as goal

abbrev pub invariant-loop-b : goal.invariant-loop-b
invariant-loop-b it = Each (λ t. Mirrors it.block it.cube it.i it.a t) it.found
