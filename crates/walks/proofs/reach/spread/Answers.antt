use Rattle.std.specs.Prelude.{◌^◌}
use Rattle.lists.specs.Proving.{arith, never, ap, ℕ}
use Rattle.walks.proofs.ReachLaw.{spreading-none, spreading-more, spreading-all}
use Rattle.walks.proofs.reach.spread.Goals as goal

pub loop-n-init : goal.loop-n-init
loop-n-init c = spreading-none c.start-reach.ensures

pub bounds-queue-n : goal.bounds-queue-n
bounds-queue-n c = omega (arith, c.loop-n-test.true, c.from.ensures, c.loop-n.invariant.few)

pub row-reach-requires : goal.row-reach-requires
row-reach-requires c = (c.requires, c.loop-n.invariant.long)

pub returns-in-Wrong : goal.returns-in-Wrong
returns-in-Wrong c = λ e. never cc

pub overflow_add-n : goal.overflow_add-n
overflow_add-n c = omega (arith, c.loop-n-test.true, c.from.ensures, c.loop-n.invariant.few)

pub loop-n-smaller : goal.loop-n-smaller
loop-n-smaller c = omega (arith, c.loop-n-test.true, c.from.ensures, c.loop-n.invariant.few)

pub loop-n-preserved : goal.loop-n-preserved
loop-n-preserved c = spreading-more c.row_of-s.ensures.0 c.row_of-s.ensures.1 c.loop-n.invariant c.row-reach.ensures (ap (λ (n : ℕ). 2 ^ n) (omega arith)) c.with.ensures

pub returns-then-not-all_within : goal.returns-then-not-all_within
returns-then-not-all_within c = λ e. never cc

pub returns-else-not-all_within : goal.returns-else-not-all_within
returns-else-not-all_within c = λ e. spreading-all c.requires c.loop-n.invariant (c.all_within.ensures c.if-not-all_within.false) e
