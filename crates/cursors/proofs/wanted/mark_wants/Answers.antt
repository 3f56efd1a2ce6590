use Rattle.lists.specs.Proving.{arith}
use Rattle.leaves.specs.laws.NotedLaw.{changed-none, changed-more}
use Rattle.cursors.proofs.wanted.mark_wants.Goals as goal

pub loop-t-init : goal.loop-t-init
loop-t-init c = (omega arith, changed-none)

pub returns-then-wide16-end : goal.returns-then-wide16-end
returns-then-wide16-end c = c.loop-t.invariant.1

pub loop-t-preserved : goal.loop-t-preserved
loop-t-preserved c = (omega arith, changed-more c.loop-t.invariant.1 c.mark_want.ensures)

pub returns : goal.returns
returns c = c.loop-t.invariant.1
