-- `specified`: a rule is read at a state and an input of the sheet alone.
use Rattle.lists.specs.Proving.{arith}
use Rattle.records.proofs.AlongLaw.{rule-there, rule-unset, no-state, no-input}
use Rattle.records.proofs.differ.specified.Goals as goal

pub returns-then-s-states : goal.returns-then-s-states
returns-then-s-states c = rw c.in_ok-s.was (no-state c.requires _ _ (omega (arith, c.if-s-states.true, c.states.ensures)))

pub returns-then-x-inputs : goal.returns-then-x-inputs
returns-then-x-inputs c = rw c.in_ok-s.was (no-input c.requires _ _ (omega (arith, c.if-s-states.false, c.states.ensures)) (omega (arith, c.if-x-inputs.true, c.inputs.ensures)))

pub returns-then-target : goal.returns-then-target
returns-then-target c = rw c.in_ok-s.was
    (rule-unset c.requires _ _ (omega (arith, c.if-s-states.false, c.states.ensures)) (omega (arith, c.if-x-inputs.false, c.inputs.ensures)) c.some_place-k.ensures.0 c.rule_target-target.ensures c.if-target.true)

pub returns : goal.returns
returns c = rw c.in_ok-s.was
    (rule-there c.requires _ _ (omega (arith, c.if-s-states.false, c.states.ensures)) (omega (arith, c.if-x-inputs.false, c.inputs.ensures)) c.some_place-k.ensures.0 c.rule_output-output.ensures c.rule_target-target.ensures c.if-target.false)
