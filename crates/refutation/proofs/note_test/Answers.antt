use Rattle.refutation.proofs.FactsLaw.{ready-kept}
use Rattle.refutation.proofs.note_test.Goals as goal

pub returns : goal.returns
returns c = (c.add_test.ensures.long, λ m r. ready-kept c.add_test.ensures r)
