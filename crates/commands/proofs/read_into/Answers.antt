use Rattle.std.proofs.Common.{◌≡◌, arith, Err, []}
use Rattle.commands.proofs.ScanLaw.{scan-long, scan-told, scan-refused, nothing-told}
use Rattle.commands.proofs.read_into.Goals as goal

pub returns-then-sheet-gt16384 : goal.returns-then-sheet-gt16384
returns-then-sheet-gt16384 c =
    let a = c.args in
    let p = scan-long a.sheet.now a.state.now.output a.state.now.target c.if-sheet-gt16384.true in
    rw c.new.ensures (record { answer = p.0; rules = p.1 })

pub returns-in_err-suspects : goal.returns-in_err-suspects
returns-in_err-suspects c =
    let same : c.from_residual.result ≡ Err c.in_err-suspects.field-0.0 = grind arith in
    let p = scan-refused c.args.sheet.now _ c.if-sheet-gt16384.false c.in_err-suspects.field-0.0 [] [] c.in_err-suspects.ensures in
    rw same (record { answer = p.0; rules = nothing-told _ p.0 _ _ })

pub returns : goal.returns
returns c =
    let p = scan-told c.args.sheet.now _ c.if-sheet-gt16384.false c.in_ok-suspects.suspects c.in_ok-suspects.ensures in
    rw c.summary.ensures (record { answer = p.0; rules = p.1 })
