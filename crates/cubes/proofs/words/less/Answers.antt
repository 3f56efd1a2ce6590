use Rattle.cubes.proofs.WordsLaw.{less-lt, without}
use Rattle.cubes.proofs.words.less.Goals as goal

pub of_bits-requires : goal.of_bits-requires
of_bits-requires g c = less-lt _ _ _ c.bits-a.ensures.1

pub returns : goal.returns
returns g c = rw (c.of_bits.ensures, c.bits-a.ensures.0, c.bits.ensures.0) (without _ _)
