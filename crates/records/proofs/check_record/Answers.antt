-- `check_record`: refused as reading refuses, or the record on the sheet that was read.
use Rattle.std.proofs.Common.{rules}
use Rattle.records.proofs.OperateLaw.{check-refused, check-accepted, sized}
use Rattle.records.proofs.check_record.Goals as goal

pub returns-in_err-loaded : goal.returns-in_err-loaded
returns-in_err-loaded c = let a = c.args in
    let x = check-refused a.sheet.now a.log.now c.in_err-loaded.ensures.refused {r = c.from_residual.result} (search rules) in
    record { answer = x.0; told = x.1 }

pub check_loaded-requires : goal.check_loaded-requires
check_loaded-requires c = let o = c.in_ok-loaded.ensures.opened in (o.sheet, sized o)

pub returns : goal.returns
returns c = let a = c.args in
    let o = c.in_ok-loaded.ensures.opened in
    let x = check-accepted a.sheet.now a.log.now o.sheet o.is _ (c.check_loaded.ensures o.sheet (sized o)) in
    record { answer = x.0; told = x.1 }
