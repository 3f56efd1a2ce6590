use native.Mathlib.Omega.{arith}
use Rattle.station.proofs.PressLaw.{found_at, found_none}
use Rattle.station.proofs.steps.input_in.Goals as goal

pub returns-then-position-part : goal.returns-then-position-part
returns-then-position-part c = λ t e. found_at t e c.args.position (omega (arith, c.if-position-part.true))

pub returns-else-position-part : goal.returns-else-position-part
returns-else-position-part c = λ t e. found_none t e c.args.position c.if-position-part.false
