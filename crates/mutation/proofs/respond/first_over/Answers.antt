-- `first_over`: each input before i is below k.
use Rattle.lists.specs.Proving.{below_more}
use Rattle.mutation.proofs.OverLaw.{over-at, over-nowhere}
use Rattle.mutation.proofs.respond.first_over.Goals as goal

pub returns-then-k-x : goal.returns-then-k-x
returns-then-k-x c = over-at _ _ c.loop-i.invariant c.loop-i-test.true c.if-k-x.true

pub loop-i-preserved : goal.loop-i-preserved
loop-i-preserved c = below_more _ _ c.loop-i.invariant c.if-k-x.false

pub returns : goal.returns
returns c = over-nowhere _ _ c.loop-i.invariant c.loop-i-test.false
