use Rattle.lists.specs.Proving.{arith, refl, sym, ◌∙◌, below_more}
use Rattle.lists.specs.laws.TestLaw.{clash}
use Rattle.leaves.proofs.notes.witnessed.Goals as goal

pub returns-then-note-eq0 : goal.returns-then-note-eq0
returns-then-note-eq0 c = (λ e. clash _ e refl, λ e w. w.kept (sym c.note.ensures ∙ c.if-note-eq0.true))

pub loop-j-init : goal.loop-j-init
loop-j-init c = (omega arith, λ k h. absurd (omega arith))

pub returns-then-clash : goal.returns-then-clash
returns-then-clash c = (λ e. clash _ e refl, λ e w. w.agrees c.loop-j.j (omega arith) (rw c.note-in-loop-j.ensures at (c.clash.ensures.0 c.if-clash.true)))

pub loop-j-preserved : goal.loop-j-preserved
loop-j-preserved c = (omega arith, below_more _ _ c.loop-j.invariant.1 (rw c.note-in-loop-j.ensures at (c.clash.ensures.1 c.if-clash.false)))

pub returns : goal.returns
returns c = (λ e. record { kept = λ z. c.if-note-eq0.false (c.note.ensures ∙ z); agrees = λ j l. c.loop-j.invariant.1 j (omega arith) }, λ e w. clash _ refl e)
