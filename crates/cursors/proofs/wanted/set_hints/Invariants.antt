use Rattle.leaves.specs.Noted.{Changed}
use Rattle.cursors.proofs.wanted.set_hints.Given as goal

abbrev pub invariant-loop-s : goal.invariant-loop-s
invariant-loop-s l = (goal.iterator-loop-s).can_next l.s-iterator × (goal.iterator-loop-s).is_finite l.s-iterator × Changed 576 8768 l.initial.notes l.notes
