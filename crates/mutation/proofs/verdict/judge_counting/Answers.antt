-- `judge_counting`: refused as reading refuses, or the judgement of the sheet that was read.
use Rattle.std.proofs.Common.{rules}
use Rattle.mutation.proofs.JudgingLaw.{judge-refused, judge-accepted, measured-refused}
use Rattle.mutation.proofs.verdict.judge_counting.Goals as goal

pub returns-in_err-loaded : goal.returns-in_err-loaded
returns-in_err-loaded c = let a = c.args in
    let x = judge-refused a.sheet.now a.board.now a.sequence.now c.in_err-loaded.ensures.refused {r = c.from_residual.result} (search rules) in
    record { answer = x.0.answer; board = x.0.board; sequence = x.0.sequence; told = x.1; nodes = measured-refused c.in_err-loaded.field-0.0 _ (search rules) }

pub returns : goal.returns
returns c = let a = c.args in
    let o = c.in_ok-loaded.ensures.opened in
    let y = judge-accepted a.sheet.now a.board.now a.sequence.now o.sheet o.is _ _ _ (c.judge_loaded.ensures.judges o.sheet o.holds) in
    record { answer = y.0.answer; board = y.0.board; sequence = y.0.sequence; told = y.1; nodes = c.judge_loaded.ensures.measured }
