use Rattle.lists.specs.Proving.{never}
use Rattle.mirror.proofs.OtherLaw.{none_below, more-below, all-below}
use Rattle.mirror.proofs.exchange.all_answered.Goals as goal

pub loop-c-init : goal.loop-c-init
loop-c-init c = none_below

pub answered-requires : goal.answered-requires
answered-requires c = (c.requires.0, c.requires.1, c.requires.2, rw c.choices_at-end.ensures at c.loop-c-test.true)

pub returns-then-not-answered : goal.returns-then-not-answered
returns-then-not-answered c = λ e. never cc

pub loop-c-preserved : goal.loop-c-preserved
loop-c-preserved c = more-below c.loop-c.invariant (c.answered.ensures c.if-not-answered.false)

pub returns : goal.returns
returns c = λ e. all-below c.loop-c.invariant (rw c.choices_at-end.ensures at c.loop-c-test.false)
