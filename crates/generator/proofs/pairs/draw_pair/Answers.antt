-- `draw_pair`: three draws, each from the seed that the one before left.
use Rattle.generator.specs.Generating.{rule_from}
use Rattle.generator.proofs.pairs.draw_pair.Goals as goal

pub returns-clause-pair : goal.returns-clause-pair
unfolding rule_from
returns-clause-pair c = rw (c.target_of.ensures, c.below-lot.ensures.number, c.below-state.ensures.number, c.below-output.ensures.number, c.below-state.ensures.seed, c.below-output.ensures.seed)

pub returns-clause-seed : goal.returns-clause-seed
returns-clause-seed c = rw (c.below-lot.ensures.seed, c.below-state.ensures.seed, c.below-output.ensures.seed)
