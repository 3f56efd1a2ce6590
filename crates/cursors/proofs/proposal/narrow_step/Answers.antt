use Rattle.lists.specs.Proving.{arith}
use Rattle.cursors.proofs.NarrowingLaw.{narrowed-set}
use Rattle.cursors.proofs.proposal.narrow_step.Goals as goal

pub returns : goal.returns
returns c = narrowed-set c.site-i.result _ _ _ (omega arith) c.wide.ensures.0 c.wide-2.ensures.0 c.narrowed.ensures c.if-l.false
