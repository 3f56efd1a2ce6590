use Rattle.cubes.specs.declared.goal.Goal.TheVariants.{Nonconforming}
use Rattle.clearing.proofs.LookLaw.{or-all}
use Rattle.clearing.proofs.looks.by_test.Goals as goal

pub returns : goal.returns
returns c = or-all _ c.unwrap_or.ensures (c.by_log.ensures Nonconforming)
