-- `take`: refused as reading refuses, or the take on the sheet that was read.
use Rattle.std.proofs.Common.{rules}
use Rattle.walking.proofs.TakingLaw.{take-refused, take-accepted}
use Rattle.walking.proofs.take.Goals as goal

pub returns-in_err-loaded : goal.returns-in_err-loaded
returns-in_err-loaded c = let a = c.args in
    let x = take-refused a.sheet.now _ a.board.now a.sequence.now c.in_err-loaded.ensures.refused {r = c.from_residual.result} (search rules) in
    record { answer = x.0.answer; board = x.0.board; sequence = x.0.sequence; told = x.1 }

pub returns : goal.returns
returns c = let a = c.args in
    let o = c.in_ok-loaded.ensures.opened in
    let y = take-accepted a.sheet.now _ a.board.now a.sequence.now o.sheet o.is _ _ _ (c.take_loaded.ensures o.sheet o.holds) in
    record { answer = y.0.answer; board = y.0.board; sequence = y.0.sequence; told = y.1 }
