use Rattle.lists.specs.Proving.{arith, never}
use Rattle.mirror.proofs.exchange.offered.Goals as goal

pub loop-tries-init : goal.loop-tries-init
loop-tries-init c = c.clipped-d.ensures

pub is_choice-requires : goal.is_choice-requires
is_choice-requires c = (c.requires.0, c.requires.1, rw c.choices_at-end.ensures at (c.loop-tries.invariant (omega arith)))

pub returns-then-is_choice : goal.returns-then-is_choice
returns-then-is_choice c = λ e. c.is_choice.ensures c.if-is_choice.true

pub overflow_add-d : goal.overflow_add-d
overflow_add-d c = omega (arith, c.loop-tries.invariant (omega arith))

pub loop-tries-preserved : goal.loop-tries-preserved
loop-tries-preserved c = c.clipped-d-in-loop-tries.ensures

pub returns : goal.returns
returns c = λ e. never cc
