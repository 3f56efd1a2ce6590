use Rattle.cursors.proofs.MarkingLaw.{marked-none, marked-some}
use Rattle.cursors.proofs.wanted.mark.Goals as goal

pub returns-then-new-eq0 : goal.returns-then-new-eq0
returns-then-new-eq0 c = marked-none _ _ c.cell-k.ensures.0 c.note-old.ensures c.less-new.ensures c.if-new-eq0.true

pub returns : goal.returns
returns c = marked-some _ _ c.cell-k.ensures.0 c.cell-k.ensures.1 c.note-old.ensures c.set_hints.ensures c.union.ensures c.set_note.ensures
