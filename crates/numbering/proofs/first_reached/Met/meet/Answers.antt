-- `meet`: a new state.
use Rattle.numbering.proofs.SearchLaw.{meet-at}
use Rattle.numbering.proofs.first_reached.Met.meet.Goals as goal

pub returns-then-self-i : goal.returns-then-self-i
returns-then-self-i c = λ met m room. meet-at m c.args.t c.from-i.ensures c.if-i-lt16.true room c.if-self-i.true
