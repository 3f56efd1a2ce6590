use Rattle.store.specs.Store.{StoreOk}
use Rattle.refutation.proofs.BranchLaw.{Trying}
use Rattle.refutation.proofs.branch.+explore.Given as goal

abbrev pub decreases-explore : goal.decreases-explore
decreases-explore l = l.node.now.left

abbrev pub invariant-loop-r : goal.invariant-loop-r
invariant-loop-r l = record {
  trying : Trying l.question.goal l.question.block.now l.question.log.now l.common.all l.common.done l.split.k l.split.n l.r;
  kept : StoreOk l.question.goal l.question.block.now l.question.log.now l.store;
}
