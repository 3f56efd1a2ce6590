use Rattle.std.specs.Prelude.{◌≤◌}
use Rattle.cursors.specs.Steering.{Advanced}
use Rattle.cursors.proofs.progress.advance_all.Given as goal

abbrev pub invariant-loop-t : goal.invariant-loop-t
invariant-loop-t l = (l.t ≤ 256) × Advanced l.wait l.initial.cursors l.cursors
