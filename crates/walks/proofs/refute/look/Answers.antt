use Rattle.lists.specs.Proving.{sym, subst}
use Rattle.cubes.specs.declared.goal.Goal.{Goal}
use Rattle.walks.specs.Walks.{Halts}
use Rattle.walks.proofs.refute.look.Goals as goal

pub returns-in_default : goal.returns-in_default
returns-in_default c = c.walk-halt.ensures c.args.goal

pub returns-in-Nonconforming : goal.returns-in-Nonconforming
returns-in-Nonconforming c = subst (λ (g : Goal). Halts g c.args.block.now c.args.log.now c.args.p.now c.by_pairs.result) (sym c.in-Nonconforming.is) (c.by_pairs.ensures c.args.log.now (rw c.in-Ends.is at (c.walk-halt.ensures c.args.goal)))
