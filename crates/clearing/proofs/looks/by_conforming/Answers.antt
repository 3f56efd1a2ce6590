use Rattle.clearing.proofs.LookLaw.{or-all}
use Rattle.clearing.proofs.looks.by_conforming.Goals as goal

pub returns : goal.returns
returns c = λ log. or-all _ c.unwrap_or.ensures (c.by_reach.ensures log)
