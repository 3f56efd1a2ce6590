-- `first_failed_loaded`: a short array for the log of a short sheet, a long one for any other.
use native.Mathlib.Omega.{arith}
use Rattle.logs.specs.laws.SuitesLaw.{suite-short, suite-long}
use Rattle.mutation.proofs.suite.first_failed_loaded.Goals as goal

pub first_failed_logged-requires : goal.first_failed_logged-requires
first_failed_logged-requires c = let (sh, ld) = c.requires in record { room = omega arith; loaded = (sh, suite-short ld (omega (arith, c.if-loaded-le1024.true))) }

pub first_failed_logged-requires-else-loaded-le1024 : goal.first_failed_logged-requires-else-loaded-le1024
first_failed_logged-requires-else-loaded-le1024 c = let (sh, ld) = c.requires in record { room = omega arith; loaded = (sh, suite-long ld (omega arith)) }

pub returns-then-loaded-le1024 : goal.returns-then-loaded-le1024
returns-then-loaded-le1024 c = λ sh ld. c.first_failed_logged.ensures sh (suite-short ld (omega (arith, c.if-loaded-le1024.true)))

pub returns-else-loaded-le1024 : goal.returns-else-loaded-le1024
returns-else-loaded-le1024 c = λ sh ld. c.first_failed_logged-else-loaded-le1024.ensures sh (suite-long ld (omega arith))
