use Rattle.walks.proofs.blame.by_log.Goals as goal

pub returns : goal.returns
returns c = λ goal. c.told_of.ensures goal _ _ _ (c.walk_from.ensures.0 goal)
