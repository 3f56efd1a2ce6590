use Rattle.leaves.specs.Members.{Literals}
use Rattle.pairs.proofs.proposal.Proposal.narrow.Given as goal

abbrev pub invariant-loop : goal.invariant-loop
invariant-loop l = Literals l.initial.self.cube → Literals l.self.cube
