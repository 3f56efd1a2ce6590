use Rattle.lists.specs.Proving.{arith, never}
use Rattle.mirror.proofs.OtherLaw.{none_below, more-below, all-below}
use Rattle.mirror.proofs.reflection.silent.Goals as goal

pub loop-x-init : goal.loop-x-init
loop-x-init c = none_below

pub place-requires : goal.place-requires
place-requires c = (c.requires.1, omega (arith, c.loop-x-test.true, c.inputs-end.ensures, c.requires.0.few-inputs))

pub quiet-requires : goal.quiet-requires
quiet-requires c = (c.requires.0, omega (arith, c.place.ensures.1))

pub returns-then-not-quiet : goal.returns-then-not-quiet
returns-then-not-quiet c = λ e. never cc

pub loop-x-preserved : goal.loop-x-preserved
loop-x-preserved c = more-below c.loop-x.invariant (rw c.place.ensures.0 at (c.quiet.ensures c.if-not-quiet.false))

pub returns : goal.returns
returns c = λ e. all-below c.loop-x.invariant (rw c.inputs-end.ensures at c.loop-x-test.false)
