use Rattle.lists.specs.Proving.{arith}
use Rattle.cursors.proofs.NarrowingLaw.{narrowed_none, narrowed-more}
use Rattle.cursors.proofs.proposal.narrow_all.Goals as goal

pub loop-rounds-init : goal.loop-rounds-init
loop-rounds-init c = (omega arith, omega arith, omega arith, narrowed_none)

pub returns-then-not-narrow_once : goal.returns-then-not-narrow_once
returns-then-not-narrow_once c = narrowed-more c.loop-rounds.invariant.3 c.narrow_once.ensures

pub loop-rounds-preserved : goal.loop-rounds-preserved
loop-rounds-preserved c = (omega arith, omega arith, omega arith, narrowed-more c.loop-rounds.invariant.3 c.narrow_once.ensures)

pub returns : goal.returns
returns c = c.loop-rounds.invariant.3
