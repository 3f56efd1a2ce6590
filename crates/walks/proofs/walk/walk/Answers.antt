-- `walk`: it stands where it is.
use Rattle.lists.specs.Proving.{arith, sym, ◌∙◌}
use Rattle.walks.proofs.StandLaw.{suspect-low, settled-step, step-on, step-not}
use Rattle.walks.proofs.walk.walk.Goals as goal

pub settled_choice-requires : goal.settled_choice-requires
settled_choice-requires c = λ n. suspect-low c.requires.0 c.in-Some.ensures.low c.site-i.ensures n

pub returns-then-step-output_of : goal.returns-then-step-output_of
returns-then-step-output_of c =
    let wf = c.requires.0 in
    let pair = c.in-Some.ensures in
    step-not wf c.loop-here.invariant c.observe-seen.ensures pair c.since_reset.ensures c.used_with-used.ensures
    (settled-step wf pair.low c.site-i.ensures c.in-Some-settled_choice.ensures c.used_with-used.ensures c.transition-step.ensures) (λ e. c.if-step-output_of.true (e ∙ sym c.output_of.ensures.0))

pub loop-here-smaller : goal.loop-here-smaller
loop-here-smaller c = omega (arith, c.observe-seen.ensures.onward, c.observe-seen.ensures.inside)

pub loop-here-preserved : goal.loop-here-preserved
loop-here-preserved c =
    let wf = c.requires.0 in
    let pair = c.in-Some.ensures in
    step-on wf c.loop-here.invariant c.observe-seen.ensures pair c.since_reset.ensures c.used_with-used.ensures
    (settled-step wf pair.low c.site-i.ensures c.in-Some-settled_choice.ensures c.used_with-used.ensures c.transition-step.ensures)
