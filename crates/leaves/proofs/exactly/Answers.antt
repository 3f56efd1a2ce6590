use Rattle.lists.specs.Proving.{rules, arith}
use Rattle.leaves.proofs.MembersLaw.{means-only}
use Rattle.leaves.proofs.exactly.Goals as goal

pub returns-then-not-holds : goal.returns-then-not-holds
returns-then-not-holds c = record { meant = λ h. absurd (c.holds.ensures.modulo.1 c.if-not-holds.true h); free = λ h. search rules }

pub returns : goal.returns
returns c = record { meant = λ h. means-only (omega arith) (omega arith) c.with.ensures (omega arith); free = λ h. absurd (h (c.holds.ensures.modulo.0 c.if-not-holds.false)) }
