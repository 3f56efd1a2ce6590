use Rattle.std.specs.Prelude.{◌≤◌}
use Rattle.cursors.specs.Steering.{Narrowed}
use Rattle.cursors.proofs.proposal.narrow_once.Given as goal

abbrev pub invariant-loop-l : goal.invariant-loop-l
invariant-loop-l l = (l.l ≤ l.length) × (l.length ≤ 256) × (l.from ≤ 4294967296) × Narrowed l.base l.initial.cube l.cube
