use Rattle.lists.specs.Proving.{never}
use Rattle.mirror.proofs.OtherLaw.{none_below, more-below, all-below}
use Rattle.mirror.proofs.exchange.all_exchange.Goals as goal

pub row_exchanges-requires : goal.row_exchanges-requires
row_exchanges-requires c = (c.requires.0, c.requires.1, c.requires.1, c.requires.2)

pub returns-then-not-row_exchanges : goal.returns-then-not-row_exchanges
returns-then-not-row_exchanges c = λ e. never cc

pub loop-s-init : goal.loop-s-init
loop-s-init c = none_below

pub row_exchanges-requires-in-loop-s : goal.row_exchanges-requires-in-loop-s
row_exchanges-requires-in-loop-s c = (c.requires.0, rw c.states-end.ensures at c.loop-s-test.true, c.requires.1, c.requires.2)

pub returns-then-not-row_exchanges-2 : goal.returns-then-not-row_exchanges-2
returns-then-not-row_exchanges-2 c = λ e. never cc

pub loop-s-preserved : goal.loop-s-preserved
loop-s-preserved c = more-below c.loop-s.invariant (c.row_exchanges-in-loop-s.ensures c.if-not-row_exchanges-2.false)

pub returns : goal.returns
returns c = λ e. all-below c.loop-s.invariant (rw c.states-end.ensures at c.loop-s-test.false)
