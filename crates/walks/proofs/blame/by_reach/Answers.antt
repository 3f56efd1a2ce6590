use Rattle.walks.proofs.SplitLaw.{none-conforming}
use Rattle.walks.proofs.blame.by_reach.Goals as goal

pub returns-in-Closed : goal.returns-in-Closed
returns-in-Closed c = λ log. none-conforming (c.spread-reach.ensures c.in-Closed.is)
