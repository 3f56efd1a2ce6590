use Rattle.mirror.specs.Mirror.{Each, Exchangeable}
use Rattle.mirror.proofs.exchange.partners.Given as goal

abbrev pub invariant-loop-b : goal.invariant-loop-b
invariant-loop-b it = Each (λ t. Exchangeable it.block it.a t) it.set
