use Rattle.cubes.specs.laws.ConformLaw.{lone-low}
use Rattle.cubes.specs.laws.WalkLaw.{lone-not, lone-one}
use Rattle.cubes.proofs.failing.lone_lead.Goals as goal

pub returns-then-step-o : goal.returns-then-step-o
returns-then-step-o c = lone-not c.requires.0 c.requires.2 c.transition-step.ensures c.if-step-o.true

pub one-requires : goal.one-requires
one-requires c = lone-low c.requires.0 c.requires.1 c.requires.2 c.transition-step.ensures

pub returns : goal.returns
returns c = lone-one c.requires.0 c.requires.2 c.transition-step.ensures c.one.ensures
