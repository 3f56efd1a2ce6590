-- `quieted`: the byte of QUIET, or nothing.
use Rattle.std.proofs.Common.{arith}
use Rattle.sheet.specs.Encode.{quiet_bytes}
use Rattle.writing.proofs.laws.SpelledLaw.{spelled_none}
use Rattle.writing.proofs.spell.quieted.Goals as goal

pub byte-requires : goal.byte-requires
unfolding quiet_bytes
byte-requires c = let room = rw c.if-quiet.true at c.requires in
    omega arith

pub returns-then-quiet : goal.returns-then-quiet
unfolding quiet_bytes
returns-then-quiet c = rw c.if-quiet.true c.byte.ensures

pub returns-else-quiet : goal.returns-else-quiet
unfolding quiet_bytes
returns-else-quiet c = rw c.if-quiet.false spelled_none
