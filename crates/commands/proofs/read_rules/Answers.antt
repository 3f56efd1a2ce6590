use Rattle.std.proofs.Common.{◌≡◌, arith, rules, Err}
use Rattle.commands.proofs.ScanLaw.{nothing-told}
use Rattle.commands.proofs.read_rules.Goals as goal

pub returns-in_err-summary : goal.returns-in_err-summary
returns-in_err-summary c =
    let same : c.from_residual.result ≡ Err c.in_err-summary.field-0.0 = grind arith in
    let told = c.in_err-summary.ensures.answer in
    rw same (record { answer = told; rules = nothing-told _ told _ _; refused = search rules })
