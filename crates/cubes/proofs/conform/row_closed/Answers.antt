use Rattle.lists.specs.Proving.{arith, never}
use Rattle.cubes.specs.laws.ConformLaw.{row-none, row_more, row-all, row-not}
use Rattle.cubes.proofs.conform.row_closed.Goals as goal

pub returns-then-not-holds : goal.returns-then-not-holds
returns-then-not-holds c = λ e. row-not (rw c.wide.ensures.0) ((c.holds.ensures.exact (omega (arith, c.requires.2, c.requires.0.wf.few-states))).1 c.if-not-holds.true)

pub loop-x-init : goal.loop-x-init
loop-x-init c = row-none

pub cell_closed-requires : goal.cell_closed-requires
cell_closed-requires c =
    (c.requires.0, c.requires.1, c.requires.2, rw c.inputs-end.ensures at c.loop-x-test.true)

pub returns-then-not-cell_closed : goal.returns-then-not-cell_closed
returns-then-not-cell_closed c = λ e. never cc

pub loop-x-preserved : goal.loop-x-preserved
loop-x-preserved c = row_more c.loop-x.invariant (c.cell_closed.ensures c.if-not-cell_closed.false)

pub returns : goal.returns
returns c = λ e. row-all c.loop-x.invariant (rw c.inputs-end.ensures at c.loop-x-test.false)
