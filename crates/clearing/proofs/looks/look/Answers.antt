use Rattle.block.specs.laws.TabledLaw.{well-formed}
use Rattle.cubes.specs.declared.goal.Goal.TheVariants.{Nonconforming}
use Rattle.clearing.specs.laws.BlamesLaw.{blames-by}
use Rattle.clearing.proofs.looks.look.Goals as goal

pub by_log-requires : goal.by_log-requires
by_log-requires c = well-formed c.requires.full.0.1.tabled

pub returns-in-Some : goal.returns-in-Some
returns-in-Some c = λ sh f. blames-by f c.requires.full.1 (c.in-Some.ensures Nonconforming)
