use Rattle.lists.specs.Proving.{arith}
use Rattle.cursors.proofs.NarrowingLaw.{narrowed_none, narrowed-more}
use Rattle.cursors.proofs.proposal.narrow_once.Goals as goal

pub loop-l-init : goal.loop-l-init
loop-l-init c = (omega arith, omega arith, omega arith, narrowed_none)

pub returns-then-next-ge65536 : goal.returns-then-next-ge65536
returns-then-next-ge65536 c = narrowed-more c.narrow_step-next.ensures c.loop-l.invariant.3

pub returns-then-next-eq0 : goal.returns-then-next-eq0
returns-then-next-eq0 c = narrowed-more c.narrow_step-next.ensures c.loop-l.invariant.3

pub loop-l-preserved : goal.loop-l-preserved
loop-l-preserved c = (omega arith, omega arith, omega arith, narrowed-more c.loop-l.invariant.3 c.narrow_states-next.ensures)

pub returns : goal.returns
returns c = narrowed-more c.narrow_step-next.ensures c.loop-l.invariant.3
