use Rattle.leaves.specs.laws.MembersLaw.{literals-free}
use Rattle.pairs.proofs.proposal.propose.Goals as goal

pub returns : goal.returns
returns c = c.narrow.ensures (literals-free c.exact-2.ensures.1)
