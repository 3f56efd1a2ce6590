-- The line of a refusal, piece by piece.
use Rattle.std.proofs.Common.{arith}
use Rattle.writing.proofs.laws.SpelledLaw.{spelled-both}
use Rattle.report.specs.Text.{refused_line}
use Rattle.report.specs.laws.TextLaw.{byte-digits, place-digits}
use Rattle.report.proofs.text.put_refused.Goals as goal

pub put_number-at-requires : goal.put_number-at-requires
put_number-at-requires c = omega (arith, byte-digits _ c.ranges.number)

pub bytes-middle-requires : goal.bytes-middle-requires
bytes-middle-requires c = omega (arith, byte-digits _ c.ranges.number)

pub put_number-end-requires : goal.put_number-end-requires
put_number-end-requires c = omega (arith, byte-digits _ c.ranges.number, place-digits _ c.ranges.place)

pub byte-requires : goal.byte-requires
byte-requires c = omega (arith, byte-digits _ c.ranges.number, place-digits _ c.ranges.place)

pub returns : goal.returns
unfolding refused_line
returns c =
    spelled-both c.bytes-head.ensures
    (spelled-both c.put_number-at.ensures (spelled-both c.bytes-middle.ensures (spelled-both c.put_number-end.ensures c.byte.ensures)))
