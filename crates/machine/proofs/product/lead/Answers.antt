-- `lead`: each answer is a law of `leads` on tables; the two next states are states.
use native.Mathlib.Omega.{arith}
use Rattle.machine.proofs.ProductLaw.{undefined-here, next_low, apart-here, onward-here}
use Rattle.machine.proofs.product.lead.Goals as goal

pub returns-then-s : goal.returns-then-s
returns-then-s c = let a = c.args in
    let p = c.requires.v_bound in
    undefined-here c.requires.valid a.outputs.now a.v a.x p.0 p.1 p.2 c.place-a.ensures.0 c.rule_target-s.ensures c.if-s.true

pub returns-then-rule_output-outputs : goal.returns-then-rule_output-outputs
returns-then-rule_output-outputs c = let a = c.args in
    let p = c.requires.v_bound in
    apart-here c.requires.valid a.outputs.now a.v a.x p.0 p.1 p.2 c.place-a.ensures.0 c.rule_target-s.ensures c.if-s.false c.place-b.ensures.0 c.rule_output.ensures c.if-rule_output-outputs.true

pub overflow_mul-result : goal.overflow_mul-result
overflow_mul-result c = let a = c.args in
    let p = c.requires.v_bound in
    let low = next_low c.requires.valid a.outputs.now a.v a.x p.0 p.1 p.2 c.place-a.ensures.0 c.rule_target-s.ensures c.if-s.false c.place-b.ensures.0 in
    omega (arith, low.0)

pub overflow_add-result : goal.overflow_add-result
overflow_add-result c = let a = c.args in
    let p = c.requires.v_bound in
    let low = next_low c.requires.valid a.outputs.now a.v a.x p.0 p.1 p.2 c.place-a.ensures.0 c.rule_target-s.ensures c.if-s.false c.place-b.ensures.0 in
    omega (arith, low.0, low.1)

pub returns : goal.returns
returns c = let a = c.args in
    let p = c.requires.v_bound in
    onward-here c.requires.valid a.outputs.now a.v a.x p.0 p.1 p.2 c.place-a.ensures.0 c.rule_target-s.ensures c.if-s.false c.place-b.ensures.0 c.rule_output.ensures c.if-rule_output-outputs.false
