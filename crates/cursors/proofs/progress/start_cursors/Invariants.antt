use Rattle.std.specs.Prelude.{◌≤◌}
use Rattle.cursors.specs.Steering.{Begun}
use Rattle.cursors.proofs.progress.start_cursors.Given as goal

abbrev pub invariant-loop-t : goal.invariant-loop-t
invariant-loop-t l = (l.t ≤ 256) × Begun l.t l.facts l.cursors
