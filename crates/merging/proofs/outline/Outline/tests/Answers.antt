-- `tests`: they stand where the layout says.
use Rattle.lists.specs.Proving.{arith, sym}
use lib.Seq.{length-take-le}
use Rattle.merging.proofs.PartsLaw.{in_order, tests-there}
use Rattle.merging.proofs.outline.Outline.tests.Goals as goal

pub overflow_sub-result : goal.overflow_sub-result
overflow_sub-result c = let o = in_order c.requires.1 in omega (arith, o.2)

pub slice_bounds-result-count : goal.slice_bounds-result-count
slice_bounds-result-count c = let o = in_order c.requires.1 in omega (arith, o.2)

pub slice_bounds-result-start : goal.slice_bounds-result-start
slice_bounds-result-start c = let o = in_order c.requires.1 in omega (arith, o.2)

pub returns : goal.returns
returns c = λ sh l. tests-there l
