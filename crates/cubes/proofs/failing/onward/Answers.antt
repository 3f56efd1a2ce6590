use Rattle.cubes.specs.laws.WalkLaw.{on_none, on-more, on-all}
use Rattle.cubes.proofs.failing.onward.Goals as goal

pub loop-q-init : goal.loop-q-init
loop-q-init c = on_none

pub leads-requires : goal.leads-requires
leads-requires c = (c.requires.0, rw c.states-end.ensures at c.loop-q-test.true, c.requires.1, c.requires.2)

pub loop-q-preserved : goal.loop-q-preserved
loop-q-preserved c = on-more c.loop-q.invariant c.leads.ensures c.union-next.ensures

pub returns : goal.returns
returns c = on-all c.loop-q.invariant (rw c.states-end.ensures at c.loop-q-test.false)
