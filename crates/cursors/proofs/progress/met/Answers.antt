use Rattle.std.specs.Prelude.{◌%◌}
use Rattle.lists.specs.Proving.{arith}
use Rattle.cursors.proofs.NarrowingLaw.{met-none, met-more}
use Rattle.cursors.proofs.progress.met.Goals as goal

pub loop-n-init : goal.loop-n-init
loop-n-init c = (omega arith, met-none c.args.settled)

pub returns-then-not-holds : goal.returns-then-not-holds
returns-then-not-holds c = c.loop-n.invariant.1

pub loop-n-preserved : goal.loop-n-preserved
loop-n-preserved c = (omega arith, met-more c.args.settled (c.in-Suspect.i % 32) c.with-used.ensures c.loop-n.invariant.1 (c.holds.ensures.modulo.0 c.if-not-holds.false))

pub returns : goal.returns
returns c = c.loop-n.invariant.1
