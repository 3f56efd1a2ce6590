use Rattle.lists.specs.Proving.{arith}
use Rattle.block.proofs.PackingLaw.{fill_none, fill_more, fill-all}
use Rattle.block.proofs.packing.copy_choices.Goals as goal

pub loop-i-init : goal.loop-i-init
loop-i-init c = fill_none 1280 32 _ c.requires

pub loop-i-preserved : goal.loop-i-preserved
loop-i-preserved c = fill_more _ (omega arith) c.loop-i.invariant c.loop-i-test.true (λ l m. omega arith)

pub returns : goal.returns
returns c = fill-all c.loop-i.invariant c.loop-i-test.false
