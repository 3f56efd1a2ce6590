use Rattle.std.proofs.Common.{arith}
use Rattle.ending.proofs.EndLaw.{open-rule, open_free}
use Rattle.ending.proofs.is_open.Goals as goal

pub returns-then-target-p-lt16 : goal.returns-then-target-p-lt16
returns-then-target-p-lt16 c = λ sh h. let a = c.args in open-rule a.unruled a.target.now a.faulty.now sh a.s a.x (omega arith) (omega arith) h c.if-target-p-lt16.true

pub returns-else-target-p-lt16 : goal.returns-else-target-p-lt16
returns-else-target-p-lt16 c = λ sh h. let a = c.args in open_free a.unruled a.target.now a.faulty.now sh a.s a.x (omega arith) (omega arith) h c.if-target-p-lt16.false
