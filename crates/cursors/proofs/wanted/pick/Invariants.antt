use Rattle.std.specs.Prelude.{◌≤◌}
use Rattle.cursors.specs.Steering.{Picked}
use Rattle.cursors.proofs.wanted.pick.Given as goal

abbrev pub invariant-loop-j : goal.invariant-loop-j
invariant-loop-j l = (l.j ≤ 32) × Picked l.block l.waiting l.best.at
