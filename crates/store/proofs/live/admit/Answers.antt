use Rattle.lists.specs.Proving.{arith}
use Rattle.leaves.specs.laws.NotedLaw.{changed-none, changed-set, changed-more}
use Rattle.store.proofs.live.admit.Goals as goal

pub loop-n-init : goal.loop-n-init
loop-n-init c = (omega arith, changed-none)

pub loop-n-preserved : goal.loop-n-preserved
loop-n-preserved c = (omega arith, changed-more c.loop-n.invariant.1 (changed-set _ _ (omega arith) (omega arith) c.set_note.ensures))

pub returns : goal.returns
returns c = c.loop-n.invariant.1
