use Rattle.lists.specs.Proving.{arith, sym, List·getD-eq-default}
use Rattle.leaves.proofs.notes.note.Goals as goal

pub returns-then-at-notes : goal.returns-then-at-notes
returns-then-at-notes c = sym (List·getD-eq-default c.args.notes.now 0 (omega arith))
