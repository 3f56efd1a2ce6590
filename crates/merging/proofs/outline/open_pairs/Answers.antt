-- `open_pairs`: those at the states before s are counted.
use Rattle.lists.specs.Proving.{arith, ◌∙◌, ap, refl}
use Rattle.lists.specs.Lists.{count}
use Rattle.merging.specs.words.Outlined.{either_open, open_both}
use Rattle.merging.proofs.OpenLaw.{open_more}
use Rattle.merging.proofs.outline.open_pairs.Goals as goal

pub loop-s-init : goal.loop-s-init
unfolding open_both
loop-s-init c = (omega arith, refl)

pub loop-s-preserved : goal.loop-s-preserved
loop-s-preserved c = (
  omega (arith, c.open_at-n.ensures.few),
  open_more _ _ _ _ _ _ c.loop-s.invariant.1 (c.open_at-n.ensures.counted ∙ ap (count (either_open c.args.choices.now c.args.others.now c.loop-s.s)) c.from.ensures),
)
