use Rattle.std.proofs.Common.{rules, arith}
use Rattle.reading.specs.words.Places.{LaidOut}
use Rattle.reading.proofs.SpanLaw as laws
use Rattle.reading.proofs.test_span.Goals as goal

pub returns-in_err-summary : goal.returns-in_err-summary
returns-in_err-summary c = search (rules, laws.span-refused)

pub returns-then-i-summary : goal.returns-then-i-summary
returns-then-i-summary c =
    let (sh, t) = laws.told c.args.sheet.now c.in_ok-summary.summary c.in_ok-summary.ensures in
    rw c.new.ensures (laws.span_none c.args.sheet.now c.args.i _ sh t c.if-i-summary.true)

pub test_from-requires : goal.test_from-requires
test_from-requires c =
    let (sh, t) = laws.told c.args.sheet.now c.in_ok-summary.summary c.in_ok-summary.ensures in
    rw (c.layout_of-layout.ensures sh t.is) (sh.tests, (laws.laid_out t).tests.bytes, omega (arith, laws.tests-are t))

pub returns : goal.returns
returns c =
    let (sh, t) = laws.told c.args.sheet.now c.in_ok-summary.summary c.in_ok-summary.ensures in
    let l : LaidOut c.args.sheet.now sh c.layout_of-layout.result = rw (c.layout_of-layout.ensures sh t.is) (laws.laid_out t) in
    laws.span-is c.args.sheet.now c.args.i _ sh t c.if-i-summary.false _ l _ (c.test_from.ensures sh.tests l.tests.bytes (omega (arith, laws.tests-are t)))
