-- `head`: they stand where the layout says.
use Rattle.lists.specs.Proving.{arith, sym}
use lib.Seq.{length-take-le}
use Rattle.merging.proofs.PartsLaw.{in_order, head-there}
use Rattle.merging.proofs.outline.Outline.head.Goals as goal

pub slice_bounds-result-end : goal.slice_bounds-result-end
slice_bounds-result-end c = let o = in_order c.requires.1 in sym (length-take-le _ _ (omega (arith, o.0, o.1, o.2)))

pub returns : goal.returns
returns c = λ sh l. head-there l
