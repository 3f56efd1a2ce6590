-- `use_tests`: the tests before t are marked.
use Rattle.usage.proofs.TriedLaw.{tests-start, tests-next, tests-end}
use Rattle.usage.proofs.tried.use_tests.Goals as goal

pub loop-t-init : goal.loop-t-init
loop-t-init c = tests-start c.start_set-used.ensures

pub mark_test-used-requires : goal.mark_test-used-requires
mark_test-used-requires c = rw (c.from-start.ensures, c.from-inputs.ensures) (c.requires.each c.loop-t.t c.loop-t-test.true)

pub loop-t-preserved : goal.loop-t-preserved
loop-t-preserved c = tests-next c.loop-t.invariant c.loop-t-test.true c.from-start.ensures c.from-inputs.ensures c.mark_test-used.ensures

pub returns : goal.returns
returns c = tests-end c.loop-t.invariant c.loop-t-test.false
