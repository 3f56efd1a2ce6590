-- `operands`: those before are spelled.
use Rattle.writing.proofs.laws.SpelledLaw.{spelling-room, spelling-more, spelling-end}
use Rattle.writing.proofs.RestLaw.{operands_next, operands-none}
use Rattle.writing.proofs.spell.operands.Goals as goal

pub command-to-requires : goal.command-to-requires
command-to-requires c = spelling-room c.loop-x.invariant (operands_next c.args.b c.args.table.now c.loop-x.x-index c.loop-x-test.true)

pub loop-x-preserved : goal.loop-x-preserved
loop-x-preserved c = spelling-more c.loop-x.invariant (operands_next c.args.b c.args.table.now c.loop-x.x-index c.loop-x-test.true) c.command-to.ensures

pub returns : goal.returns
returns c = spelling-end c.loop-x.invariant (operands-none c.args.b c.args.table.now c.loop-x.x-index c.loop-x-test.false)
