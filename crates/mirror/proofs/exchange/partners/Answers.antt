use Rattle.mirror.proofs.OtherLaw.{each_none, each_more}
use Rattle.mirror.proofs.ExchangeLaw.{movable}
use Rattle.mirror.proofs.exchange.partners.Goals as goal

pub returns-then-a-end : goal.returns-then-a-end
returns-then-a-end c = each_none

pub returns-then-holds : goal.returns-then-holds
returns-then-holds c = each_none

pub loop-b-init : goal.loop-b-init
loop-b-init c = each_none

pub partner_of-requires : goal.partner_of-requires
partner_of-requires c =
    let formed = c.requires.wf in record { wf = (formed.0, formed.1, rw c.states-end.ensures at c.if-a-end.false, rw c.states-end.ensures at c.loop-b-test.true, movable formed.1 ((c.holds.ensures.exact formed.2).1 c.if-holds.false)); facts_len = c.requires.facts_len }

pub loop-b-preserved : goal.loop-b-preserved
loop-b-preserved c = each_more c.loop-b.invariant c.partner_of.ensures c.union-set.ensures

pub returns : goal.returns
returns c = c.loop-b.invariant
