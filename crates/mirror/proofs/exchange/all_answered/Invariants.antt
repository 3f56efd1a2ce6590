use Rattle.mirror.specs.Mirror.{Below, Answered}
use Rattle.mirror.proofs.exchange.all_answered.Given as goal

abbrev pub invariant-loop-c : goal.invariant-loop-c
invariant-loop-c it = Below (λ d. Answered it.block it.a it.b it.k it.j d) it.c
