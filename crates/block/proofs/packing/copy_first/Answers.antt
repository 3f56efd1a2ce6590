use Rattle.lists.specs.Proving.{arith}
use Rattle.block.proofs.PackingLaw.{fill_none, fill_more, fill-all}
use Rattle.block.proofs.packing.copy_first.Goals as goal

pub loop-k-init : goal.loop-k-init
loop-k-init c = fill_none 512 256 _ c.requires

pub loop-k-preserved : goal.loop-k-preserved
loop-k-preserved c = fill_more _ (omega arith) c.loop-k.invariant c.loop-k-test.true (λ l. omega arith)

pub returns : goal.returns
returns c = fill-all c.loop-k.invariant c.loop-k-test.false
