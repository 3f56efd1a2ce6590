use Rattle.lists.specs.Proving.{arith}
use Rattle.walks.proofs.BlameLaw.{stands-before, starts}
use Rattle.walks.proofs.blame.walk_from.Goals as goal

pub walk-requires : goal.walk-requires
walk-requires c = (c.requires, stands-before c.requires (omega arith) c.if-log-at-ne-PULSE.false)

pub returns : goal.returns
returns c = (c.walk.ensures, starts _ _ c.walk.result (omega arith) c.if-log-at-ne-PULSE.false)
