use Rattle.lists.specs.Proving.{arith}
use Rattle.leaves.proofs.NotesLaw.{kept-none, kept_more, kept-all}
use Rattle.leaves.proofs.notes.keep_witness.Goals as goal

pub loop-j-init : goal.loop-j-init
loop-j-init c = (omega arith, kept-none)

pub loop-j-preserved : goal.loop-j-preserved
loop-j-preserved c = (omega arith, kept_more (omega arith) c.loop-j.invariant.1 c.set_note.ensures)

pub returns : goal.returns
returns c = kept-all (omega arith) c.loop-j.invariant.1 c.set_note-2.ensures
