use Rattle.leaves.specs.Noted.{Changed}
use Rattle.cursors.proofs.wanted.mark_test.Given as goal

abbrev pub invariant-loop-o : goal.invariant-loop-o
invariant-loop-o l = (goal.iterator-loop-o).can_next l.o-iterator × (goal.iterator-loop-o).is_finite l.o-iterator × Changed 64 8768 l.initial.notes l.notes
