-- `settle`: the number at j, and 0 after it.
use borrow.Author.Rules.{rules}
use Rattle.clearing.proofs.OrderLaw.{reset-filled}
use Rattle.clearing.proofs.order.settle.Goals as goal

pub returns : goal.returns
returns c = (
  reset-filled c.args.p.now c.fill.new.self c.requires.1 c.requires.0 (c.fill.ensures.after (search rules)),
  reset-filled c.args.blame.now c.fill-2.new.self c.requires.2 c.requires.0 (c.fill-2.ensures.after (search rules)),
)
