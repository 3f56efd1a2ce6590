-- After some numbers, those are written.
use Rattle.std.proofs.Common.{arith}
use Rattle.report.specs.laws.TextLaw.{field-next, fields-none, fields-all}
use Rattle.report.proofs.text.put_fields.Goals as goal

pub loop-number-init : goal.loop-number-init
loop-number-init c = (omega arith, omega arith, fields-none _ _)

pub put_field-end-requires : goal.put_field-end-requires
put_field-end-requires c = omega (arith, c.loop-number.invariant.2.long)

pub loop-number-preserved : goal.loop-number-preserved
loop-number-preserved c = (
  omega arith,
  omega (arith, c.put_field-end.ensures.short),
  field-next c.args.numbers.now c.loop-number.number-index c.loop-number.invariant.2 c.put_field-end.ensures.text (omega arith),
)

pub returns : goal.returns
returns c = record { text = fields-all c.args.numbers.now c.loop-number.number-index c.loop-number.invariant.2 (omega arith); short = omega arith }
