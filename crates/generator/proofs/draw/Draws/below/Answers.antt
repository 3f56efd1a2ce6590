use Rattle.generator.specs.Generating.{drawn}
use Rattle.generator.proofs.draw.Draws.below.Goals as goal

pub returns-clause-number : goal.returns-clause-number
unfolding drawn
returns-clause-number c = rw c.from.ensures
