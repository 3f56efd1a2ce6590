use Rattle.std.specs.Prelude.{◌*◌, ◌≤◌}
use Rattle.cursors.proofs.wanted.alive.Given as goal

abbrev pub invariant-loop-n : goal.invariant-loop-n
invariant-loop-n l = (l.n ≤ 16) × (l.sum ≤ 31 * l.n)
