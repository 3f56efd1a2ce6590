use Rattle.lists.specs.Proving.{arith, never}
use Rattle.cubes.specs.laws.ConformLaw.{closed_none, closed-more, all-conform}
use Rattle.cubes.proofs.conform.closed.Goals as goal

pub returns-then-not-within : goal.returns-then-not-within
returns-then-not-within c = λ e. never cc

pub loop-a-init : goal.loop-a-init
loop-a-init c = closed_none

pub line_closed-requires : goal.line_closed-requires
line_closed-requires c =
    (c.requires, omega (arith, c.loop-a-test.true, c.states-end.ensures, c.requires.wf.few-states))

pub returns-then-not-line_closed : goal.returns-then-not-line_closed
returns-then-not-line_closed c = λ e. never cc

pub loop-a-preserved : goal.loop-a-preserved
loop-a-preserved c = closed-more c.loop-a.invariant (c.line_closed.ensures c.if-not-line_closed.false)

pub returns : goal.returns
returns c =
    λ e. all-conform c.requires.wf c.loop-a.invariant (rw c.states-end.ensures at c.loop-a-test.false) (c.starts.ensures c.requires) (c.within.ensures c.if-not-within.false)
