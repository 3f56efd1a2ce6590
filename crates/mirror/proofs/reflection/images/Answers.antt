use Rattle.mirror.proofs.OtherLaw.{each_none, each_more}
use Rattle.mirror.proofs.reflection.images.Goals as goal

pub loop-b-init : goal.loop-b-init
loop-b-init c = each_none

pub image-requires : goal.image-requires
image-requires c = (c.requires.0, c.requires.1, c.requires.2, c.loop-b-test.true)

pub loop-b-preserved : goal.loop-b-preserved
loop-b-preserved c = each_more c.loop-b.invariant c.image.ensures c.union-found.ensures

pub returns : goal.returns
returns c = c.loop-b.invariant
