-- `bytes`: those before are spelled.
use lib.ListN.{drop_of_length-le}
use Rattle.std.proofs.Common.{arith}
use Rattle.writing.proofs.laws.SpelledLaw.{spelling-start, spelling-room, spelling-more, spelling-end}
use Rattle.writing.proofs.RestLaw.{bytes_next}
use Rattle.writing.proofs.spell.bytes.Goals as goal

pub loop-x-init : goal.loop-x-init
loop-x-init c = spelling-start c.requires

pub byte-to-requires : goal.byte-to-requires
byte-to-requires c = omega (arith, spelling-room c.loop-x.invariant (bytes_next c.args.part.now c.loop-x.x-index c.loop-x-test.true))

pub loop-x-preserved : goal.loop-x-preserved
loop-x-preserved c = spelling-more c.loop-x.invariant (bytes_next c.args.part.now c.loop-x.x-index c.loop-x-test.true) c.byte-to.ensures

pub returns : goal.returns
returns c = spelling-end c.loop-x.invariant (drop_of_length-le c.args.part.now c.loop-x-test.false)
