use Rattle.lists.specs.Proving.{arith}
use Rattle.walks.proofs.ReachLaw.{start-stopped, start-met}
use Rattle.walks.proofs.StandLaw.{suspect-low, settled-step}
use Rattle.walks.proofs.reach.start.Goals as goal

pub settled_choice-requires : goal.settled_choice-requires
settled_choice-requires c = λ n. suspect-low {k = 256} c.requires.0 (omega arith) c.site-i.ensures n

pub returns-in_default : goal.returns-in_default
returns-in_default c = start-stopped c.stopped.ensures.1 c.stopped.ensures.2

pub returns : goal.returns
returns c =
    let wf = c.requires.0 in
    start-met wf (settled-step wf (omega arith) c.site-i.ensures c.in-Some.ensures c.used_with.ensures c.transition-step.ensures) c.meet.ensures.0 (c.meet.ensures.1 (omega arith))
