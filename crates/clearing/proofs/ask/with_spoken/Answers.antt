use Rattle.clearing.proofs.AskLaw.{to_same, to-joined}
use Rattle.clearing.proofs.ask.with_spoken.Goals as goal

pub returns-then-l-eq-ANY : goal.returns-then-l-eq-ANY
returns-then-l-eq-ANY c = to_same c.if-l-eq-ANY.true

pub returns : goal.returns
returns c = to-joined c.requires c.with.ensures
