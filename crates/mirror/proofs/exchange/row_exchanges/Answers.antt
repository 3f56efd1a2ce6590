use Rattle.lists.specs.Proving.{arith, never}
use Rattle.mirror.proofs.OtherLaw.{other-low, none_below, more-below, all-below}
use Rattle.mirror.proofs.exchange.row_exchanges.Goals as goal

pub loop-x-init : goal.loop-x-init
loop-x-init c = none_below

pub place-requires : goal.place-requires
place-requires c = (omega (arith, c.requires.1, c.requires.0.few-states), omega (arith, c.loop-x-test.true, c.inputs-end.ensures, c.requires.0.few-inputs))

pub place-requires-in-loop-x : goal.place-requires-in-loop-x
place-requires-in-loop-x c = (omega (arith, c.other-q.ensures, other-low c.args.a c.args.b c.args.s _ c.requires.2 c.requires.3 c.requires.1, c.requires.0.few-states), omega (arith, c.loop-x-test.true, c.inputs-end.ensures, c.requires.0.few-inputs))

pub pair_exchanges-requires : goal.pair_exchanges-requires
pair_exchanges-requires c =
    (c.requires.0, c.place.ensures.1, c.place-in-loop-x.ensures.1, c.requires.2, c.requires.3)

pub returns-then-not-pair_exchanges : goal.returns-then-not-pair_exchanges
returns-then-not-pair_exchanges c = λ e. never cc

pub loop-x-preserved : goal.loop-x-preserved
loop-x-preserved c =
    more-below c.loop-x.invariant (rw (c.place.ensures.0, c.place-in-loop-x.ensures.0, c.other-q.ensures) at (c.pair_exchanges.ensures c.if-not-pair_exchanges.false))

pub returns : goal.returns
returns c = λ e. all-below c.loop-x.invariant (rw c.inputs-end.ensures at c.loop-x-test.false)
