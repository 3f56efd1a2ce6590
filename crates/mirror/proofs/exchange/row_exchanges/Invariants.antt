use Rattle.block.specs.Layout.{pair}
use Rattle.mirror.specs.Mirror.{other, Below, Exchanges}
use Rattle.mirror.proofs.exchange.row_exchanges.Given as goal

abbrev pub invariant-loop-x : goal.invariant-loop-x
invariant-loop-x it = Below (λ y. Exchanges it.block it.a it.b (pair it.s y) (pair (other it.a it.b it.s) y)) it.x
