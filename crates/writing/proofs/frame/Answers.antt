-- `frame`: one byte more for QUIET.
use native.Mathlib.Omega.{arith}
use Rattle.sheet.specs.Encode.{quiet_bytes}
use Rattle.writing.proofs.frame.Goals as goal

pub returns-then-quiet : goal.returns-then-quiet
unfolding quiet_bytes
returns-then-quiet c = record { few = omega arith; counted = rw c.if-quiet.true }

pub returns-else-quiet : goal.returns-else-quiet
unfolding quiet_bytes
returns-else-quiet c = record { few = omega arith; counted = rw c.if-quiet.false }
