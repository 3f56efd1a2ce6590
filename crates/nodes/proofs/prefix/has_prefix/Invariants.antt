use Rattle.nodes.proofs.PrefixLaw.{PrefixTo}
use Rattle.nodes.proofs.prefix.has_prefix.Given as goal

abbrev pub invariant-loop-i : goal.invariant-loop-i
invariant-loop-i l = PrefixTo l.block l.cube l.prefix l.i
