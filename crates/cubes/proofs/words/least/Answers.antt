-- the lowest bit that is set is a member, below the room, and none is below it
use Rattle.cubes.proofs.WordsLaw.{least-in, none-below}
use Rattle.cubes.proofs.words.least.Goals as goal

pub returns-clause-member : goal.returns-clause-member
returns-clause-member g c = least-in c.bits.ensures.0 c.ROOM.ensures g.met.S.Set.roomy c.bits.ensures.1

pub returns-clause-first : goal.returns-clause-first
returns-clause-first g c = none-below c.bits.ensures.0 c.ROOM.ensures g.met.S.Set.roomy c.bits.ensures.1
