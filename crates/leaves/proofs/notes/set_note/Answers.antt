use Rattle.lists.specs.Proving.{arith, sym}
use lib.Seq.{set_out}
use Rattle.leaves.proofs.notes.set_note.Goals as goal

pub returns-then-at-notes : goal.returns-then-at-notes
returns-then-at-notes c = sym (set_out _ _ _ (omega arith))
