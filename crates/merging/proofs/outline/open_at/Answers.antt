-- `open_at`: those before x are counted.
use Rattle.lists.specs.Proving.{arith, sym, ◌∙◌, refl}
use Rattle.lists.specs.Lists.{count}
use Rattle.merging.proofs.OpenLaw.{count_yes, count_no}
use Rattle.merging.proofs.outline.open_at.Goals as goal
use Rattle.merging.proofs.outline.open_at.Goals.{then-is_open, else-is_open}

pub loop-x-init : goal.loop-x-init
unfolding count
loop-x-init c = (omega arith, refl)

pub loop-x-preserved : goal.loop-x-preserved
loop-x-preserved c = elim c.if-is_open.branch [
  | then-is_open w ↦ (omega (arith, w.n-is), w.n-is ∙ count_yes _ _ _ (sym c.is_open.ensures ∙ w.if-is_open.true) c.loop-x.invariant.1)
  | else-is_open w ↦ (omega (arith, w.n-is), w.n-is ∙ count_no _ _ _ (sym c.is_open.ensures ∙ w.if-is_open.false) c.loop-x.invariant.1)
]
