use Rattle.std.specs.Prelude.{◌≤◌}
use Rattle.cursors.proofs.proposal.length_of.Given as goal

abbrev pub invariant-loop-l : goal.invariant-loop-l
invariant-loop-l l = (l.l ≤ 256) × (l.from ≤ 4294967296)
