use Rattle.usage.proofs.MarkLaw.{marked-slot, marked-none}
use Rattle.usage.proofs.marks.marked.Goals as goal

pub returns-then-i-lt32 : goal.returns-then-i-lt32
returns-then-i-lt32 c = marked-slot _ _ _ c.site-i.ensures c.if-i-lt32.true c.with.ensures

pub returns : goal.returns
returns c = marked-none _ _ _ c.site-i.ensures c.if-i-lt32.false
