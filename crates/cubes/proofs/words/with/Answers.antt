use Rattle.cubes.proofs.WordsLaw.{with-lt, with-joined}
use Rattle.cubes.proofs.words.with.Goals as goal

pub of_bits-requires : goal.of_bits-requires
of_bits-requires g c = with-lt c.bits.ensures.0 _ c.ROOM.ensures g.met.S.Set.roomy c.bits.ensures.1

pub returns : goal.returns
returns g c = rw c.of_bits.ensures (with-joined c.bits.ensures.0 _ c.ROOM.ensures g.met.S.Set.roomy)
