use Rattle.lists.specs.Proving.{never}
use Rattle.cubes.specs.laws.ConformLaw.{line-none, line-more, line-all}
use Rattle.cubes.proofs.conform.line_closed.Goals as goal

pub loop-b-init : goal.loop-b-init
loop-b-init c = line-none

pub row_closed-requires : goal.row_closed-requires
row_closed-requires c = (c.requires.0, c.requires.1, rw c.states-end.ensures at c.loop-b-test.true)

pub returns-then-not-row_closed : goal.returns-then-not-row_closed
returns-then-not-row_closed c = λ e. never cc

pub loop-b-preserved : goal.loop-b-preserved
loop-b-preserved c = line-more c.loop-b.invariant (c.row_closed.ensures c.if-not-row_closed.false)

pub returns : goal.returns
returns c = λ e. line-all c.loop-b.invariant (rw c.states-end.ensures at c.loop-b-test.false)
