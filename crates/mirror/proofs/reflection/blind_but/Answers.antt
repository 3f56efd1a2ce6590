use Rattle.lists.specs.Proving.{never}
use Rattle.mirror.proofs.OtherLaw.{none_below, more-below, all-below}
use Rattle.mirror.proofs.reflection.blind_but.Goals as goal

pub loop-j-init : goal.loop-j-init
loop-j-init c = none_below

pub blind_at-requires : goal.blind_at-requires
blind_at-requires c = (c.requires.0, c.requires.1, c.loop-j-test.true)

pub returns-then-not-blind_at : goal.returns-then-not-blind_at
returns-then-not-blind_at c = λ e. never cc

pub loop-j-preserved : goal.loop-j-preserved
loop-j-preserved c = more-below c.loop-j.invariant (c.blind_at.ensures c.if-not-blind_at.false)

pub returns : goal.returns
returns c = λ e. all-below c.loop-j.invariant c.loop-j-test.false
