use Rattle.cubes.proofs.WordsLaw.{tells, tells-exact}
use Rattle.cubes.proofs.words.holds.Goals as goal

pub returns-clause-modulo : goal.returns-clause-modulo
returns-clause-modulo g c = tells c.bits.ensures.0 _ c.ROOM.ensures

pub returns-clause-exact : goal.returns-clause-exact
returns-clause-exact g c = tells-exact c.bits.ensures.0 _ c.ROOM.ensures
