use Rattle.cubes.specs.laws.FreeLaw.{all_none, all_more, all-not, all-all}
use Rattle.cubes.proofs.tables.enter_all.Goals as goal

pub loop-k-init : goal.loop-k-init
loop-k-init c = all_none c.requires.1

pub enter_pair-requires : goal.enter_pair-requires
enter_pair-requires c = (c.requires.0, c.loop-k-test.true, c.loop-k.invariant.long)

pub returns-then-not-enter_pair : goal.returns-then-not-enter_pair
returns-then-not-enter_pair c = all-not _ c.loop-k.invariant c.enter_pair.ensures

pub loop-k-preserved : goal.loop-k-preserved
loop-k-preserved c = all_more _ c.loop-k.invariant c.enter_pair.ensures c.if-not-enter_pair.false

pub returns : goal.returns
returns c = all-all c.loop-k.invariant c.loop-k-test.false
