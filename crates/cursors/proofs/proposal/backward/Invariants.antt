use Rattle.std.specs.Prelude.{◌≤◌}
use Rattle.cursors.proofs.proposal.backward.Given as goal

abbrev pub invariant-loop-s : goal.invariant-loop-s
invariant-loop-s l = l.s ≤ 255
