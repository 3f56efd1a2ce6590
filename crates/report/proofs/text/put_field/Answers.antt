-- A blank, then at most three digits.
use Rattle.std.proofs.Common.{arith}
use Rattle.writing.proofs.laws.SpelledLaw.{spelled-both}
use Rattle.report.specs.laws.TextLaw.{byte-digits}
use Rattle.report.proofs.text.put_field.Goals as goal

pub put_number-requires : goal.put_number-requires
put_number-requires c = omega (arith, c.byte-blank.ensures.many, c.byte-blank.ensures.long, byte-digits _ c.ranges.number)

pub returns : goal.returns
returns c = record { text = spelled-both c.byte-blank.ensures c.put_number.ensures; short = omega (arith, c.byte-blank.ensures.many, c.put_number.ensures.many, byte-digits _ c.ranges.number) }
