use Rattle.lists.specs.Proving.{never}
use Rattle.mirror.proofs.ExchangeLaw.{unruled-exchange}
use Rattle.mirror.proofs.exchange.pair_exchanges.Goals as goal

pub returns-then-not-is_free-2 : goal.returns-then-not-is_free-2
returns-then-not-is_free-2 c = λ e. never cc

pub returns : goal.returns
returns c =
    let p = c.requires in
    let here = c.is_free.ensures c.if-not-is_free.false in
    let there = c.is_free-2.ensures c.if-not-is_free-2.false in
    λ e. unruled-exchange p.0 p.1 p.2 p.3 p.4 here.0 there.0 here.1 there.1 (c.unruled_alike.ensures e).0 (c.unruled_alike.ensures e).1
