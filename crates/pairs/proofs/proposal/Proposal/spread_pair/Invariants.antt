use Rattle.leaves.specs.Members.{Literals}
use Rattle.pairs.proofs.proposal.Proposal.spread_pair.Given as goal

abbrev pub invariant-loop-x : goal.invariant-loop-x
invariant-loop-x l = Literals l.initial.self.cube → Literals l.self.cube
