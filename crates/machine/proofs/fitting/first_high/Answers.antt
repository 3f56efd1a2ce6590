-- `first_high`: each choice before i is in range.
use native.Mathlib.Omega.{arith}
use borrow.Author.Count.{below_more}
use Rattle.machine.proofs.fitting.first_high.Goals as goal

pub loop-i-preserved : goal.loop-i-preserved
loop-i-preserved c = below_more _ _ c.loop-i.invariant (omega (arith, c.choices.ensures, c.from.ensures, c.if-choices-from.false))

pub returns-then-choices-from : goal.returns-then-choices-from
returns-then-choices-from c = (record { most = omega arith; low = c.loop-i.invariant; high = λ l. omega (arith, c.choices.ensures, c.from.ensures, c.if-choices-from.true) }, c.loop-i-test.true)

pub returns : goal.returns
returns c = record { most = omega arith; low = λ j l. c.loop-i.invariant j (omega arith); high = λ l. absurd (omega arith) }
