use Rattle.lists.specs.Proving.{arith, sym}
use Rattle.cursors.proofs.MarkingLaw.{advanced-none, advanced-more}
use Rattle.cursors.proofs.progress.advance_all.Goals as goal

pub loop-t-init : goal.loop-t-init
loop-t-init c = (omega arith, advanced-none)

pub returns-then-t-end-clause-advanced : goal.returns-then-t-end-clause-advanced
returns-then-t-end-clause-advanced c = rw c.waited-wait.ensures at c.loop-t.invariant.1

pub returns-in-Failed-clause-advanced : goal.returns-in-Failed-clause-advanced
returns-in-Failed-clause-advanced c = rw c.waited-wait.ensures at c.loop-t.invariant.1

pub loop-t-preserved : goal.loop-t-preserved
loop-t-preserved c = (omega arith, advanced-more _ _ _ c.advance_if-c.ensures c.loop-t.invariant.1)

pub returns-clause-advanced : goal.returns-clause-advanced
returns-clause-advanced c = rw c.waited-wait.ensures at c.loop-t.invariant.1
