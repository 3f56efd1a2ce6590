-- `record_suite`: the tests before t are written.
use native.Mathlib.Omega.{arith}
use Rattle.logs.proofs.RecordLaw.{suite-start, suite-room, suite-more, suite-end}
use Rattle.logs.proofs.suite.record_suite.Goals as goal

pub loop-t-init : goal.loop-t-init
loop-t-init c = suite-start c.requires.tests_in_bounds

pub record_test-to-requires : goal.record_test-to-requires
record_test-to-requires c = record { test_at = rw (c.from-start.ensures, c.from-inputs.ensures) (c.requires.tests_at.each c.loop-t.t (omega (arith, c.loop-t-test.true))); inputs_in_bounds = suite-room c.loop-t.invariant (omega (arith, c.loop-t-test.true)) c.from-start.ensures c.from-inputs.ensures }

pub loop-t-preserved : goal.loop-t-preserved
loop-t-preserved c =
    suite-more c.loop-t.invariant (omega (arith, c.loop-t-test.true)) c.from-start.ensures c.from-inputs.ensures c.record_test-to.ensures

pub shape_of-log : goal.shape_of-log
shape_of-log c = c.loop-t.invariant.wrote.long

pub returns : goal.returns
returns c = suite-end c.loop-t.invariant (omega (arith, c.loop-t-test.false, c.requires.tests_at.few))
