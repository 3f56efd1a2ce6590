use Rattle.lists.specs.Proving.{never}
use Rattle.cubes.specs.laws.ConformLaw.{lone-low, lone-ok}
use Rattle.cubes.proofs.conform.lone.Goals as goal

pub returns-then-step-o : goal.returns-then-step-o
returns-then-step-o c = λ e. never cc

pub returns : goal.returns
returns c = λ e. lone-ok c.requires.0 c.requires.2 c.transition-step.ensures c.if-step-o.false ((c.holds.ensures.exact (lone-low c.requires.0 c.requires.1 c.requires.2 c.transition-step.ensures)).0 e)
