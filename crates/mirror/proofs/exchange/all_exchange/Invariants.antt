use Rattle.mirror.specs.Mirror.{Below, RowExchanges}
use Rattle.mirror.proofs.exchange.all_exchange.Given as goal

abbrev pub invariant-loop-s : goal.invariant-loop-s
invariant-loop-s it = Below (λ q. RowExchanges it.block it.a it.b q) it.s
