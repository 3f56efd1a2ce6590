-- a pair of a state and an input
use Rattle.std.specs.Prelude.{◌<◌}
use Rattle.lists.specs.Proving.{arith, refl}
use Rattle.block.specs.laws.ChoiceLaw.{is-waking, is-rule, is-fault, is_none}
use Rattle.block.proofs.layout.transition.Goals as goal

pub returns-then-k-eq-WAKING : goal.returns-then-k-eq-WAKING
returns-then-k-eq-WAKING c = is-waking _ _ _ c.if-k-eq-WAKING.true c.wake.ensures.0 c.wake.ensures.1

pub returns-then-target : goal.returns-then-target
returns-then-target c = c.unspecified.ensures (rw c.rule_target-target.ensures at c.if-target.true)

pub returns-then-c-eq0 : goal.returns-then-c-eq0
returns-then-c-eq0 c = let low : c.args.k < 256 = omega (arith, c.requires, c.if-k-eq-WAKING.false) in
    is-rule c.args.k c.args.c _ low (rw c.rule_target-target.ensures at c.if-target.false) c.if-c-eq0.true c.rule_output-output.ensures c.rule_target-target.ensures

pub returns-then-f-ge256 : goal.returns-then-f-ge256
returns-then-f-ge256 c = let low : c.args.k < 256 = omega (arith, c.requires, c.if-k-eq-WAKING.false) in
    is_none c.args.k c.args.c _ _ low (rw c.rule_target-target.ensures at c.if-target.false) c.if-c-eq0.false (rw (c.from.ensures, c.from-2.ensures)) c.if-f-ge256.true

pub returns : goal.returns
returns c = let low : c.args.k < 256 = omega (arith, c.requires, c.if-k-eq-WAKING.false) in
    is-fault c.args.k c.args.c _ _ low (rw c.rule_target-target.ensures at c.if-target.false) c.if-c-eq0.false (rw (c.from.ensures, c.from-2.ensures)) refl refl
