use Rattle.lists.specs.Proving.{arith, never}
use Rattle.walks.proofs.ReachLaw.{within_none, within_more, within_all}
use Rattle.walks.proofs.reach.all_within.Goals as goal

pub loop-s-init : goal.loop-s-init
loop-s-init c = within_none

pub bounds-rows-from : goal.bounds-rows-from
bounds-rows-from c = omega (arith, c.from.ensures, c.states-end.ensures, c.requires.few-states)

pub bounds-done-from : goal.bounds-done-from
bounds-done-from c = omega (arith, c.from-in-loop-s.ensures, c.states-end.ensures, c.requires.few-states)

pub returns-then-not-within : goal.returns-then-not-within
returns-then-not-within c = λ e. never cc

pub loop-s-preserved : goal.loop-s-preserved
loop-s-preserved c = within_more c.loop-s.invariant (rw (c.from.ensures, c.from-in-loop-s.ensures) at (c.within.ensures c.if-not-within.false))

pub returns : goal.returns
returns c = λ e. within_all c.loop-s.invariant (rw c.states-end.ensures at c.loop-s-test.false)
