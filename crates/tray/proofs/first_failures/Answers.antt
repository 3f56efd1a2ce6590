-- `first_failures`: refused as reading refuses, or the tray on the sheet that was read.
use Rattle.std.proofs.Common.{rules}
use Rattle.tray.proofs.OutcomeLaw.{tried-refused, tried-accepted}
use Rattle.tray.proofs.first_failures.Goals as goal

pub returns-in_err-loaded : goal.returns-in_err-loaded
returns-in_err-loaded c = let a = c.args in
    let x = tried-refused a.sheet.now a.boards a.choices.now a.results.now c.in_err-loaded.ensures.refused {r = c.from_residual.result} (search rules) in
    record { answer = x.0.answer; numbers = x.0.numbers; told = x.1 }

pub returns : goal.returns
returns c = let a = c.args in
    let o = c.in_ok-loaded.ensures.opened in
    let y = tried-accepted a.sheet.now a.boards a.choices.now a.results.now o.sheet o.is _ _ (c.try_loaded.ensures o.sheet o.holds) in
    record { answer = y.0.answer; numbers = y.0.numbers; told = y.1 }
