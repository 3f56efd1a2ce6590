use Rattle.std.specs.Prelude.{◌≤◌}
use Rattle.cursors.specs.Steering.{Narrowed}
use Rattle.cursors.proofs.proposal.narrow_all.Given as goal

abbrev pub invariant-loop-rounds : goal.invariant-loop-rounds
invariant-loop-rounds l = (l.rounds ≤ 600) × (l.length ≤ 256) × (l.from ≤ 4294967296) × Narrowed l.base l.initial.cube l.cube
