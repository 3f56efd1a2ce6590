use Rattle.mirror.proofs.ExchangeLaw.{SwapsTo}
use Rattle.mirror.proofs.exchange.exchange_all.Given as goal

abbrev pub invariant-loop-a : goal.invariant-loop-a
invariant-loop-a l = SwapsTo l.block l.initial.facts l.facts l.a
