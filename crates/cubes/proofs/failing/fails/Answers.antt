use Rattle.lists.specs.Proving.{arith, never}
use Rattle.cubes.specs.laws.WalkLaw.{walk_start, walk_more, walk_end}
use Rattle.cubes.proofs.failing.fails.Goals as goal

pub returns-then-from-log : goal.returns-then-from-log
returns-then-from-log c = λ e. never cc

pub loop-at-init : goal.loop-at-init
loop-at-init c = walk_start c.requires.wf (omega (arith, c.if-from-log.false)) (omega arith) (c.starts-set.ensures c.requires)

pub returns-then-v-ge256 : goal.returns-then-v-ge256
returns-then-v-ge256 c = λ e. never cc

pub returns-then-x-inputs : goal.returns-then-x-inputs
returns-then-x-inputs c = λ e. never cc

pub onward-set-requires : goal.onward-set-requires
onward-set-requires c = (c.requires, omega (arith, c.if-x-inputs.false, c.inputs.ensures), c.output_of.ensures.1)

pub returns-then-set-eq0 : goal.returns-then-set-eq0
returns-then-set-eq0 c =
    let few = c.if-v-ge256.false in
    λ e goal. walk_end c.requires.wf c.loop-at.invariant c.observe-seen.ensures (omega (arith, few)) (omega (arith, c.input_of-x.ensures, few)) c.output_of.ensures.0 (omega (arith, c.if-x-inputs.false, c.inputs.ensures)) c.onward-set.ensures c.if-set-eq0.true goal

pub loop-at-smaller : goal.loop-at-smaller
loop-at-smaller c = omega (arith, c.observe-seen.ensures.onward, c.observe-seen.ensures.inside)

pub loop-at-preserved : goal.loop-at-preserved
loop-at-preserved c =
    let few = c.if-v-ge256.false in
    walk_more c.requires.wf c.loop-at.invariant c.observe-seen.ensures (omega (arith, few)) (omega (arith, c.input_of-x.ensures, few)) c.output_of.ensures.0 (omega (arith, c.if-x-inputs.false, c.inputs.ensures)) c.onward-set.ensures

pub returns : goal.returns
returns c = λ e. never cc
