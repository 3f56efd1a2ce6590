-- `put_number` writes the upper digits, then the last one.
use Rattle.std.proofs.Common.{arith}
use Rattle.report.specs.laws.TextLaw.{decimal-some, decimal-longer, number-one, number_more}
use Rattle.report.proofs.text.+put_number.Goals as goal

pub byte-requires : goal.byte-requires
byte-requires t c = omega (arith, decimal-some c.args.n)

pub returns-then-n-lt10 : goal.returns-then-n-lt10
returns-then-n-lt10 t c = number-one _ c.if-n-lt10.true c.byte.ensures

pub put_number-end-requires : goal.put_number-end-requires
put_number-end-requires t c = (omega arith, omega (arith, decimal-longer c.args.n c.if-n-lt10.false))

pub byte-requires-2 : goal.byte-requires-2
byte-requires-2 t c = omega (arith, decimal-longer c.args.n c.if-n-lt10.false, c.put_number-end.ensures.many, c.put_number-end.ensures.long)

pub returns : goal.returns
returns t c = number_more _ c.if-n-lt10.false c.put_number-end.ensures c.byte-2.ensures
