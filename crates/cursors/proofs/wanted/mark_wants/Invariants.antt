use Rattle.std.specs.Prelude.{◌≤◌}
use Rattle.leaves.specs.Noted.{Changed}
use Rattle.cursors.proofs.wanted.mark_wants.Given as goal

abbrev pub invariant-loop-t : goal.invariant-loop-t
invariant-loop-t l = (l.t ≤ 256) × Changed 64 8768 l.initial.notes l.notes
