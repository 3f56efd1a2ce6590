use Rattle.std.proofs.lemmas.Nat.{or_lt}
use Rattle.cubes.specs.laws.SetLaw.{union-or}
use Rattle.cubes.proofs.words.union.Goals as goal

pub of_bits-requires : goal.of_bits-requires
of_bits-requires g c = or_lt _ _ _ c.bits.ensures.1 c.bits-2.ensures.1

pub returns : goal.returns
returns g c = rw (c.of_bits.ensures, c.bits.ensures.0, c.bits-2.ensures.0) (union-or _ _)
