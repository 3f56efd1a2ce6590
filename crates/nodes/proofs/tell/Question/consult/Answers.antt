use Rattle.nodes.specs.laws.TellLaw.{found-learnt, found-entry}
use Rattle.nodes.proofs.tell.Question.consult.Goals as goal

pub returns : goal.returns
returns c =
    λ l st. found-learnt c.requires.wf (c.find-stored.ensures.0.at _ _ l st) (c.in_ok-cube.ensures l) c.learn.ensures
