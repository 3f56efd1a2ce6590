use Rattle.std.specs.Prelude.{◌≤◌}
use Rattle.leaves.proofs.NotesLaw.{Kept}
use Rattle.leaves.proofs.notes.keep_witness.Given as goal

abbrev pub invariant-loop-j : goal.invariant-loop-j
invariant-loop-j l = (l.j ≤ 32) × Kept l.choices l.initial.notes l.notes l.j
