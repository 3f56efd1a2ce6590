-- `tests`: those before are spelled, and the inputs of the others are left.
use Rattle.std.proofs.Common.{arith}
use Rattle.writing.proofs.laws.SpelledLaw.{spelling-room, spelling-more, spelling-end}
use Rattle.writing.proofs.RestLaw.{tests-next, tests-none, total-next}
use Rattle.writing.proofs.spell.tests.Goals as goal

pub split_at-requires : goal.split_at-requires
split_at-requires c = omega (arith, c.loop-n.invariant.enough, total-next c.args.lengths.now c.loop-n.n-index _ c.from.ensures c.loop-n-test.true)

pub test-to-requires : goal.test-to-requires
test-to-requires c = spelling-room c.loop-n.invariant.spelled (tests-next c.args.lengths.now c.loop-n.rest.now c.loop-n.n-index _ c.from.ensures c.loop-n-test.true _ _ c.split_at.ensures.front c.split_at.ensures.back)

pub loop-n-preserved : goal.loop-n-preserved
loop-n-preserved c =
    let total = total-next c.args.lengths.now c.loop-n.n-index _ c.from.ensures c.loop-n-test.true in
    record {
      enough = omega (arith, c.loop-n.invariant.enough, c.split_at.ensures.back_len);
      spelled = spelling-more c.loop-n.invariant.spelled (tests-next c.args.lengths.now c.loop-n.rest.now c.loop-n.n-index _ c.from.ensures c.loop-n-test.true _ _ c.split_at.ensures.front c.split_at.ensures.back) c.test-to.ensures;
    }

pub returns : goal.returns
returns c = spelling-end c.loop-n.invariant.spelled (tests-none c.args.lengths.now c.loop-n.rest.now c.loop-n.n-index c.loop-n-test.false)
