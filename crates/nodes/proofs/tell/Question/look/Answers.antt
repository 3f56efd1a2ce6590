use Rattle.nodes.specs.laws.TellLaw.{found-learnt}
use Rattle.nodes.proofs.tell.Question.look.Goals as goal

pub returns : goal.returns
returns c =
    found-learnt c.requires.0.wf (c.by_hint-hinted.ensures _ c.requires.1).kept (c.in_ok-cube.ensures _) c.learn.ensures
