use Rattle.nodes.proofs.PrefixLaw.{prefix-none, prefix-more, prefix-all}
use Rattle.nodes.proofs.prefix.has_prefix.Goals as goal

pub loop-i-init : goal.loop-i-init
loop-i-init c = prefix-none

pub loop-i-preserved : goal.loop-i-preserved
loop-i-preserved c = prefix-more c.loop-i.invariant (c.slot_has.ensures c.if-not-slot_has.false)

pub returns : goal.returns
returns c = λ e. prefix-all c.requires c.loop-i.invariant c.loop-i-test.false
