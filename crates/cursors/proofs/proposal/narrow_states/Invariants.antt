use Rattle.cursors.specs.Steering.{Narrowed}
use Rattle.cursors.proofs.proposal.narrow_states.Given as goal

abbrev pub invariant-loop-s : goal.invariant-loop-s
invariant-loop-s l = (goal.iterator-loop-s).can_next l.s-iterator × (goal.iterator-loop-s).is_finite l.s-iterator × Narrowed l.base l.initial.cube l.cube
