use Rattle.lists.specs.Proving.{arith, refl, ◌∙◌, length-set}
use Rattle.leaves.proofs.MembersLaw.{exact_none, exact-more, exact-all}
use Rattle.leaves.proofs.exact.Goals as goal

pub loop-j-init : goal.loop-j-init
loop-j-init c = (omega arith, refl, exact_none)

pub loop-j-preserved : goal.loop-j-preserved
loop-j-preserved c =
    let at-loop = c.loop-j in
    (omega arith, length-set at-loop.cube _ _ ∙ at-loop.invariant.1, exact-more _ _ _ c.loop-j-test.true c.wide.ensures.0 c.wide-in-loop-j.ensures.0 at-loop.invariant.2 c.exactly.ensures)

pub returns : goal.returns
returns c = (c.loop-j.invariant.1, exact-all (omega arith) c.loop-j.invariant.2)
