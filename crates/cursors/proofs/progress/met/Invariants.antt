use Rattle.std.specs.Prelude.{◌≤◌}
use Rattle.cubes.specs.Sets.{HasAll}
use Rattle.cursors.proofs.progress.met.Given as goal

abbrev pub invariant-loop-n : goal.invariant-loop-n
invariant-loop-n l = (l.n ≤ 33) × HasAll l.used l.settled
