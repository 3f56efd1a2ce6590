use Rattle.cubes.proofs.WordsLaw.{within-or}
use Rattle.cubes.proofs.words.within.Goals as goal

pub returns : goal.returns
returns g c = within-or c.bits-some.ensures.0 c.bits-all.ensures.0
