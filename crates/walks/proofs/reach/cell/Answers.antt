use Rattle.std.specs.Prelude.{◌<◌}
use Rattle.lists.specs.Proving.{arith, never, refl}
use Rattle.walks.proofs.ReachLaw.{cell-undefined, cell-stopped, cell-met}
use Rattle.walks.proofs.StandLaw.{suspect-low, settled-step}
use Rattle.walks.proofs.reach.cell.Goals as goal

pub returns-then-next : goal.returns-then-next
returns-then-next c = cell-undefined (rw (c.rule_target-next.ensures, c.place-at.ensures.0) at c.if-next.true)

pub settled_choice-requires : goal.settled_choice-requires
settled_choice-requires c = λ n. suspect-low c.requires.0 (omega (arith, c.place-pair.ensures.1)) c.site-i.ensures n

pub returns-in_default : goal.returns-in_default
returns-in_default c = cell-stopped (λ j h. rw c.stopped.ensures.0 h) c.stopped.ensures.1 c.stopped.ensures.2

pub returns-then-step-rule_output : goal.returns-then-step-rule_output
returns-then-step-rule_output c = cell-stopped c.used_with-used.ensures.more refl (λ z. never cc)

pub meet-count-requires : goal.meet-count-requires
meet-count-requires c =
    (c.requires.2, omega (arith, c.rule_target-next.ensures, c.requires.0.few-states, c.requires.0.rules c.place-at.result c.place-at.ensures.1 (rw c.rule_target-next.ensures at c.if-next.false)))

pub returns : goal.returns
returns c =
    let low : c.place-pair.result < 257 = omega (arith, c.place-pair.ensures.1) in
    cell-met c.requires.0 c.requires.1 c.place-pair.ensures.0 c.used_with-used.ensures.more
    (settled-step c.requires.0 low c.site-i.ensures c.in-Some.ensures c.used_with-used.ensures c.transition-step.ensures)
    (rw (c.rule_output.ensures, c.place-at.ensures.0) at c.if-step-rule_output.false) (rw (c.rule_target-next.ensures, c.place-at.ensures.0)) c.meet-count.ensures.0 c.meet-count.ensures.1
