-- `press`: 5, then 8, then 9, each at the press's index; else the state that the rule leads to.
use Rattle.std.specs.Prelude.{Ok}
use Rattle.lists.specs.Proving.{arith, sym, ◌∙◌, ap}
use Rattle.block.specs.Layout.{pair}
use Rattle.block.specs.laws.TabledLaw.{well-formed}
use Rattle.adding.proofs.PressLaw.{press-over, press-many, press-undefined, press-to}
use Rattle.adding.proofs.press.Goals as goal

pub returns-then-inputs-x : goal.returns-then-inputs-x
returns-then-inputs-x c = record { value = λ sh tb. rw c.new.ensures (press-over tb _ _ _ (omega (arith, c.if-inputs-x.true, c.inputs.ensures))); state = tt }

pub returns-then-i-ge256 : goal.returns-then-i-ge256
returns-then-i-ge256 c = record { value = λ sh tb. rw c.new-then-i-ge256.ensures (press-many tb _ _ _ (omega (arith, c.if-inputs-x.false, c.inputs.ensures)) c.if-i-ge256.true); state = tt }

pub returns-then-t : goal.returns-then-t
returns-then-t c = let is = rw c.place.ensures.0 at c.rule_target-t.ensures in record { value = λ sh tb. rw c.new-then-t.ensures (press-undefined tb _ _ _ (omega (arith, c.if-inputs-x.false, c.inputs.ensures)) c.if-i-ge256.false c.requires.1 (sym is ∙ c.if-t.true)); state = tt }

pub returns : goal.returns
returns c = let is = rw c.place.ensures.0 at c.rule_target-t.ensures in
    let inside = rw c.place.ensures.0 at c.place.ensures.1 in
    let wf = well-formed c.requires.0.1 in record {
      value = λ sh tb. ap Ok is ∙ press-to tb _ _ _ (omega (arith, c.if-inputs-x.false, c.inputs.ensures)) c.if-i-ge256.false c.requires.1 (λ e. c.if-t.false (is ∙ e));
      state = omega (arith, is, wf.few-states, wf.rules (pair c.args.s c.args.x) inside (λ z. c.if-t.false (is ∙ z)));
    }
