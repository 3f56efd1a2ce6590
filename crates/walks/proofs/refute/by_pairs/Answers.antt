use Rattle.walks.proofs.SplitLaw.{none-conforming}
use Rattle.walks.proofs.refute.by_pairs.Goals as goal

pub returns-in-Closed : goal.returns-in-Closed
returns-in-Closed c = λ log st. none-conforming (c.spread-reach.ensures c.in-Closed.is)
