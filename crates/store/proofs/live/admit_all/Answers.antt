use Rattle.lists.specs.Proving.{arith}
use Rattle.store.proofs.LiveLaw.{admitted-none, admitted-more, admitted-all}
use Rattle.store.proofs.live.admit_all.Goals as goal

pub loop-w-init : goal.loop-w-init
loop-w-init c = (omega arith, admitted-none)

pub loop-w-preserved : goal.loop-w-preserved
loop-w-preserved c = (omega arith, admitted-more _ c.loop-w-test.true (omega (arith, c.level-n.ensures.0)) c.loop-w.invariant.1 c.set_note.ensures)

pub returns : goal.returns
returns c = admitted-all (omega arith) c.loop-w.invariant.1
