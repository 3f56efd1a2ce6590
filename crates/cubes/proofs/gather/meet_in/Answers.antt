use Rattle.cubes.specs.laws.JoinLaw.{meets-none, meets-more, meets-all}
use Rattle.cubes.proofs.gather.meet_in.Goals as goal

pub loop-j-init : goal.loop-j-init
loop-j-init c = meets-none c.requires

pub loop-j-preserved : goal.loop-j-preserved
loop-j-preserved c = meets-more c.loop-j.invariant c.loop-j-test.true c.both.ensures

pub returns : goal.returns
returns c = meets-all c.loop-j.invariant c.loop-j-test.false
