use Rattle.cubes.specs.laws.SetLaw.{one_shl}
use Rattle.cubes.proofs.words.one.Goals as goal

pub returns : goal.returns
returns c = one_shl 16 c.args.s c.requires
