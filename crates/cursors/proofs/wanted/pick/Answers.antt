use Rattle.lists.specs.Proving.{arith}
use Rattle.cursors.proofs.MarkingLaw.{picked_none, picked_more}
use Rattle.cursors.proofs.wanted.pick.Goals as goal

pub loop-j-init : goal.loop-j-init
loop-j-init c = (omega arith, picked_none)

pub returns-then-j-end : goal.returns-then-j-end
returns-then-j-end c = c.loop-j.invariant.1

pub loop-j-preserved : goal.loop-j-preserved
loop-j-preserved c = (omega arith, picked_more (omega (arith, c.slots-end.ensures)) (omega arith) c.wide.ensures.0 c.better-best.ensures c.loop-j.invariant.1)

pub returns : goal.returns
returns c = c.loop-j.invariant.1
