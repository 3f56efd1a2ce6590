use Rattle.lists.specs.Proving.{arith}
use Rattle.mirror.proofs.OtherLaw.{each_none, each-one}
use Rattle.mirror.proofs.ExchangeLaw.{movable}
use Rattle.mirror.proofs.exchange.partner.Goals as goal

pub returns-then-a-b : goal.returns-then-a-b
returns-then-a-b c = each_none

pub returns-then-holds : goal.returns-then-holds
returns-then-holds c = each_none

pub returns-then-not-all_exchange : goal.returns-then-not-all_exchange
returns-then-not-all_exchange c = each_none

pub returns : goal.returns
returns c =
    each-one c.args.b c.one.ensures (record { a-low = c.requires.2; b-low = c.requires.3; a-free = c.requires.4; b-free = movable c.requires.1 ((c.holds.ensures.exact (omega (arith, c.requires.3, c.requires.0.few-states))).1 c.if-holds.false); rows = c.all_exchange.ensures c.if-not-all_exchange.false })
