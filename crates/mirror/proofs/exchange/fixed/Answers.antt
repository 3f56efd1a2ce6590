use Rattle.mirror.proofs.ExchangeLaw.{fixed-all}
use Rattle.mirror.proofs.exchange.fixed.Goals as goal

pub returns : goal.returns
returns c = fixed-all c.requires.wf c.one.ensures (c.starts.ensures c.requires) c.union.ensures
