-- `record_test`: the inputs before i are written.
use Rattle.std.specs.Prelude.{◌+◌, ◌-◌, ◌*◌, ◌≡◌}
use Rattle.lists.specs.Proving.{arith, ◌∙◌, get_or, set, length-set}
use Rattle.lists.specs.Lists.{joined}
use Rattle.block.specs.Logged.{log_bytes}
use Rattle.logs.proofs.RecordLaw.{written_none, written_one, written_both, testing-start, testing-next, testing-more, testing-end}
use Rattle.logs.proofs.suite.record_test.Goals as goal

pub bounds-log-from : goal.bounds-log-from
unfolding log_bytes joined
bounds-log-from c = omega (arith, c.requires.inputs_in_bounds)

pub loop-i-init : goal.loop-i-init
unfolding log_bytes joined
loop-i-init c =
    let e : c.args.start + 0 ≡ c.args.start = omega arith in
    let f : c.args.inputs - 0 ≡ c.args.inputs = omega arith in
    rw (e, f) (testing-start c.requires.test_at (omega (arith, c.requires.inputs_in_bounds, length-set c.args.log.now c.args.from 16)))

pub place-k-requires : goal.place-k-requires
place-k-requires c = let n = testing-next c.requires.test_at.low c.loop-i.invariant (omega arith) in (n.state, n.input)

pub bounds-log-to : goal.bounds-log-to
bounds-log-to c = omega (arith, (testing-next c.requires.test_at.low c.loop-i.invariant (omega arith)).room)

pub overflow_add-log : goal.overflow_add-log
overflow_add-log c = omega (arith, (testing-next c.requires.test_at.low c.loop-i.invariant (omega arith)).room, c.loop-i.invariant.wrote.long, length-set c.args.log.now c.args.from 16)

pub bounds-log-to-in-loop-i : goal.bounds-log-to-in-loop-i
bounds-log-to-in-loop-i c = omega (arith, (testing-next c.requires.test_at.low c.loop-i.invariant (omega arith)).room, length-set c.loop-i.log c.loop-i.to 17)

pub overflow_add-log-in-loop-i : goal.overflow_add-log-in-loop-i
overflow_add-log-in-loop-i c = omega (arith, (testing-next c.requires.test_at.low c.loop-i.invariant (omega arith)).room, c.loop-i.invariant.wrote.long, length-set c.args.log.now c.args.from 16)

pub bounds-log-to-in-loop-i-2 : goal.bounds-log-to-in-loop-i-2
bounds-log-to-in-loop-i-2 c =
    let old = c.loop-i.log in
    let to = c.loop-i.to in
    omega (arith, (testing-next c.requires.test_at.low c.loop-i.invariant (omega arith)).room, length-set old to 17, length-set (set old to 17) (to + 1) (get_or c.args.sheet.now (c.args.start + 2 * c.loop-i.i + 1) 0))

pub overflow_add-to-in-loop-i : goal.overflow_add-to-in-loop-i
overflow_add-to-in-loop-i c = omega (arith, (testing-next c.requires.test_at.low c.loop-i.invariant (omega arith)).room, c.loop-i.invariant.wrote.long, length-set c.args.log.now c.args.from 16)

pub loop-i-preserved : goal.loop-i-preserved
loop-i-preserved c =
    rw c.rule_target-s.ensures (testing-more c.requires.test_at.low c.loop-i.invariant (omega arith) c.place-k.ensures.0 c.rule_output.ensures (omega arith) (omega arith))

pub shape_of-log : goal.shape_of-log
shape_of-log c = c.loop-i.invariant.wrote.long ∙ length-set c.args.log.now c.args.from 16

pub returns : goal.returns
unfolding log_bytes joined
returns c = written_both (written_one 16 (written_none c.requires.inputs_in_bounds)) (testing-end c.loop-i.invariant (omega arith))
