use Rattle.std.proofs.Common.{◌∙◌, sym, refl, arith}
use Rattle.lists.specs.Lists.{count}
use Rattle.ending.proofs.EndLaw as laws
use Rattle.ending.proofs.open_at.Goals as goal
use Rattle.ending.proofs.open_at.Goals.{then-is_open, else-is_open}

pub loop-x-init : goal.loop-x-init
loop-x-init c = (omega arith, λ sh h. unfold count in refl)

pub loop-x-preserved : goal.loop-x-preserved
loop-x-preserved c = elim c.if-is_open.branch [
  | then-is_open w ↦ (omega (arith, w.n-is), λ sh h. w.n-is ∙ laws.count_yes _ _ _ (sym (c.is_open.ensures sh h) ∙ w.if-is_open.true) (c.loop-x.invariant.1 sh h))
  | else-is_open w ↦ (omega (arith, w.n-is), λ sh h. w.n-is ∙ laws.count_no _ _ _ (sym (c.is_open.ensures sh h) ∙ w.if-is_open.false) (c.loop-x.invariant.1 sh h))
]
