use borrow.Author.Rules.{rules}
use Rattle.clearing.specs.laws.SlotLaw.{leading-is}
use Rattle.clearing.proofs.order.highest.Goals as goal

pub overflow_sub-result : goal.overflow_sub-result
overflow_sub-result c = (leading-is c.args.set c.requires (search rules)).0

pub returns : goal.returns
returns c = (leading-is c.args.set c.requires (search rules)).1
