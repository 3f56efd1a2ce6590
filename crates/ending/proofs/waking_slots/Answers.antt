use native.Mathlib.Omega.{arith}
use Rattle.ending.proofs.EndLaw as laws
use Rattle.ending.proofs.waking_slots.Goals as goal

pub returns-then-starts-eq0 : goal.returns-then-starts-eq0
returns-then-starts-eq0 c = record { few = omega arith; counted = λ sh h. laws.waking-none sh _ h c.if-starts-eq0.true }

pub returns-else-starts-eq0 : goal.returns-else-starts-eq0
returns-else-starts-eq0 c = record { few = omega arith; counted = λ sh h. laws.waking-one sh _ h c.if-starts-eq0.false }
