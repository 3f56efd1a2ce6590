-- `settled_as`: the choices before j are settled.
use Rattle.lists.specs.Proving.{arith, refl}
use Rattle.search.proofs.AfterLaw.{filled_none, filled_more, filled-all}
use Rattle.search.proofs.settle.settled_as.Goals as goal

pub loop-j-init : goal.loop-j-init
loop-j-init c = filled_none refl

pub loop-j-preserved : goal.loop-j-preserved
loop-j-preserved c = filled_more c.loop-j.invariant (omega arith) (omega arith) c.from.ensures

pub returns : goal.returns
returns c = filled-all c.loop-j.invariant c.loop-j-test.false
