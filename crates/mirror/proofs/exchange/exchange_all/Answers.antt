use Rattle.std.specs.Prelude.{◌+◌}
use Rattle.mirror.proofs.ExchangeLaw.{swaps-none, swaps-more, swaps-all}
use Rattle.mirror.proofs.exchange.exchange_all.Goals as goal

pub loop-a-init : goal.loop-a-init
loop-a-init c = swaps-none c.requires.1

pub partners-set-requires : goal.partners-set-requires
partners-set-requires c = record { wf = (c.requires.0.wf, c.fixed-keep.ensures, c.loop-a-test.true); facts_len = (c.loop-a.invariant.long, c.loop-a.invariant.sets) }

pub loop-a-preserved : goal.loop-a-preserved
loop-a-preserved c = swaps-more (544 + c.wide.result) c.loop-a.invariant c.loop-a-test.true (rw c.wide.ensures.0) c.partners-set.ensures

pub returns : goal.returns
returns c = swaps-all c.loop-a.invariant c.loop-a-test.false
