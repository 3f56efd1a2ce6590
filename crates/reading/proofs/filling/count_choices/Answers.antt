use Rattle.std.proofs.Common.{◌≡◌, cond, get_or, ltb, ◌+◌, arith}
use borrow.Author.Tests.{lt-ltb, le-ltb}
use Rattle.reading.proofs.FillLaw as laws
use Rattle.reading.proofs.filling.count_choices.Goals as goal
use Rattle.reading.proofs.filling.count_choices.Goals.{then-target-p-lt16, else-target-p-lt16}

pub overflow_add-choices : goal.overflow_add-choices
overflow_add-choices c = let k = laws.faults-here _ _ _ c.requires.0 c.requires.1 c.loop-p.p (omega arith) (c.loop-p.invariant c.requires.0 c.requires.1) in omega arith

pub loop-p-preserved : goal.loop-p-preserved
loop-p-preserved c =
    let counted : c.if-target-p-lt16.choices ≡ cond (ltb (get_or c.args.target.now c.loop-p.p 0) 16) (get_or c.loop-p.choices c.loop-p.p 0 + 1) c.args.unruled =
    elim c.if-target-p-lt16.branch [ then-target-p-lt16 w ↦ rw (w.choices-is, lt-ltb _ _ w.if-target-p-lt16.true) | else-target-p-lt16 w ↦ rw (w.choices-is, le-ltb _ _ w.if-target-p-lt16.false) ] in
    λ sh h. laws.counting-next _ _ _ sh h c.loop-p.p (omega arith) _ counted (c.loop-p.invariant sh h)
