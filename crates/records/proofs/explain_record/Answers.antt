-- `explain_record`: refused as reading refuses, or the record on the sheet that was read.
use Rattle.std.proofs.Common.{rules}
use Rattle.records.proofs.OperateLaw.{explain-refused, explain-accepted, sized}
use Rattle.records.proofs.explain_record.Goals as goal

pub returns-in_err-loaded : goal.returns-in_err-loaded
returns-in_err-loaded c = let a = c.args in
    let x = explain-refused a.sheet.now a.log.now a.board.now a.sequence.now c.in_err-loaded.ensures.refused {r = c.from_residual.result} (search rules) in
    record { answer = x.0.answer; board = x.0.board; sequence = x.0.sequence; told = x.1 }

pub explain_loaded-requires : goal.explain_loaded-requires
explain_loaded-requires c = let o = c.in_ok-loaded.ensures.opened in (o.sheet, sized o)

pub returns : goal.returns
returns c = let a = c.args in
    let o = c.in_ok-loaded.ensures.opened in
    let x = explain-accepted a.sheet.now a.log.now a.board.now a.sequence.now o.sheet o.is _ _ _ (c.explain_loaded.ensures o.sheet (sized o)) in
    record { answer = x.0.answer; board = x.0.board; sequence = x.0.sequence; told = x.1 }
