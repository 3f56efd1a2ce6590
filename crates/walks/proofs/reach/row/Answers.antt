use Rattle.lists.specs.Proving.{◌∙◌}
use Rattle.walks.proofs.ReachLaw.{row-none, row_more, row-stopped, row-all}
use Rattle.walks.proofs.reach.row.Goals as goal

pub loop-x-init : goal.loop-x-init
loop-x-init c = row-none

pub cell-reach-requires : goal.cell-reach-requires
cell-reach-requires c = (c.requires.0, rw c.inputs-end.ensures at c.loop-x-test.true, c.loop-x.invariant.further.grows.long ∙ c.requires.1)

pub returns-in-Wrong : goal.returns-in-Wrong
returns-in-Wrong c = row-stopped c.loop-x.invariant c.cell-reach.ensures c.in-Wrong.is

pub loop-x-preserved : goal.loop-x-preserved
loop-x-preserved c = row_more c.loop-x.invariant c.cell-reach.ensures

pub returns : goal.returns
returns c = row-all c.loop-x.invariant (rw c.inputs-end.ensures at c.loop-x-test.false)
