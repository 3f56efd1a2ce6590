-- `first_wrong`: the mutant gives the observations before i.
use Rattle.lists.specs.Proving.{arith}
use Rattle.logs.proofs.WrongLaw.{walk_start, walk-reset, walk-nothing, walk-right, walk-wrong, walk_end}
use Rattle.logs.proofs.walk.first_wrong.Goals as goal

pub loop-i-init : goal.loop-i-init
loop-i-init c = walk_start c.args.outputs.now c.args.targets.now c.args.start c.args.log.now

pub loop-i-preserved-then-v-eq256 : goal.loop-i-preserved-then-v-eq256
loop-i-preserved-then-v-eq256 c = walk-reset c.loop-i.invariant c.observe-seen.ensures c.if-v-eq256.true

pub loop-i-preserved-then-v-gt256 : goal.loop-i-preserved-then-v-gt256
loop-i-preserved-then-v-gt256 c = walk-nothing c.loop-i.invariant c.observe-seen.ensures c.if-v-gt256.true

pub returns-then-outputs-k : goal.returns-then-outputs-k
returns-then-outputs-k c =
    rw (walk-wrong c.loop-i.invariant c.observe-seen.ensures c.if-v-eq256.false (omega (arith, c.if-v-gt256.false)) c.some_place-k.ensures.0 c.input_of.ensures.0 c.output_of.ensures.0 c.if-outputs-k.true, c.saturating_sub-test.ensures)

pub loop-i-preserved : goal.loop-i-preserved
loop-i-preserved c =
    walk-right c.loop-i.invariant c.observe-seen.ensures c.if-v-eq256.false (omega (arith, c.if-v-gt256.false)) c.some_place-k.ensures.0 c.input_of.ensures.0 c.output_of.ensures.0 c.if-outputs-k.false

pub returns : goal.returns
returns c = rw (walk_end c.loop-i.invariant c.loop-i-test.false)
