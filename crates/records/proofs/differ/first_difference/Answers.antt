-- `first_difference`: the bytes before `at` have no difference.
use Rattle.lists.specs.Proving.{arith}
use Rattle.records.proofs.AlongLaw.{compared-end, compared-wrong, compared-more}
use Rattle.records.proofs.differ.first_difference.Goals as goal

pub returns-then-next : goal.returns-then-next
returns-then-next c = compared-wrong c.loop-at.invariant c.loop-at-test.true c.step-next.ensures c.if-next.true

pub loop-at-preserved : goal.loop-at-preserved
loop-at-preserved c = compared-more c.loop-at.invariant c.loop-at-test.true c.step-next.ensures c.if-next.false

pub returns : goal.returns
returns c = compared-end c.loop-at.invariant (omega (arith, c.loop-at-test.false))
