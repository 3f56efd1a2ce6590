use Rattle.lists.specs.Proving.{arith, ap, ℕ}
use Rattle.std.specs.Prelude.{◌^◌}
use Rattle.std.proofs.Common.{mod-eq_of_lt}
use Rattle.walks.proofs.ReachLaw.{met-out, met_has, met-new}
use Rattle.walks.proofs.reach.meet.Goals as goal

pub returns-then-q-ge16 : goal.returns-then-q-ge16
returns-then-q-ge16 c = (met-out c.if-q-ge16.true, λ l. l)

pub returns-then-holds : goal.returns-then-holds
returns-then-holds c = (met_has (rw c.from-at.ensures at ((c.holds.ensures.exact (omega arith)).0 c.if-holds.true)), λ l. l)

pub returns-then-count-ge256 : goal.returns-then-count-ge256
returns-then-count-ge256 c = (met-new c.from-at.ensures (omega (arith, c.requires.0, c.requires.1)) (ap (λ (n : ℕ). 2 ^ n) (mod-eq_of_lt (omega arith))) c.with.ensures, λ l. l)

pub returns : goal.returns
returns c = (met-new c.from-at.ensures (omega (arith, c.requires.0, c.requires.1)) (ap (λ (n : ℕ). 2 ^ n) (mod-eq_of_lt (omega arith))) c.with.ensures, λ l. omega (arith, c.if-count-ge256.false))
