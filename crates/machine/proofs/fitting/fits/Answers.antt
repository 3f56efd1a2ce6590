-- `fits`: each way out is a case of the two refusals.
use Rattle.machine.proofs.MisfitLaw.{few-slots, fit_length, fit-high, fit_low}
use native.Mathlib.Omega.{arith}
use Rattle.machine.proofs.fitting.fits.Goals as goal

pub returns-then-mutant-from : goal.returns-then-mutant-from
returns-then-mutant-from c = λ sh tb. fit_length tb _ (λ e. c.if-mutant-from.true (rw (c.from.ensures, c.slots.ensures) e)) c.new.ensures

pub first_high-requires : goal.first_high-requires
first_high-requires c = omega (arith, few-slots c.requires.1, c.if-mutant-from.false, c.from.ensures, c.slots.ensures)

pub returns-in-Some : goal.returns-in-Some
returns-in-Some c = λ sh tb. let h = c.in-Some.ensures in fit-high tb _ (omega (arith, c.if-mutant-from.false, c.from.ensures, c.slots.ensures)) h.0 h.1 c.new-in-Some.ensures

pub returns-in-None : goal.returns-in-None
returns-in-None c = λ sh tb. fit_low tb _ (omega (arith, c.if-mutant-from.false, c.from.ensures, c.slots.ensures)) c.in-None.ensures (omega arith)
