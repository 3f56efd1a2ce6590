use Rattle.cubes.specs.laws.SetLaw.{shared-and}
use Rattle.cubes.proofs.words.shared.Goals as goal

pub returns : goal.returns
returns g c = rw (c.of_bits.ensures, c.bits.ensures.0, c.bits-2.ensures.0) (shared-and _ _)
