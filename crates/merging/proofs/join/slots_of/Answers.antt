-- `slots_of`: where a mutant wakes counts as one.
use Rattle.merging.proofs.JoinLaw.{slots-plain, slots-waking}
use Rattle.merging.proofs.join.slots_of.Goals as goal

pub returns-then-starts-eq0 : goal.returns-then-starts-eq0
returns-then-starts-eq0 c = λ m e f. slots-plain m _ _ e f c.if-starts-eq0.true

pub returns-else-starts-eq0 : goal.returns-else-starts-eq0
returns-else-starts-eq0 c = λ m e f. slots-waking m _ _ e f c.if-starts-eq0.false
