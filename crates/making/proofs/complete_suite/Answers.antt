-- `complete_suite`: refused as reading refuses, or what becomes of the sheet that was read.
use borrow.Author.Rules.{rules}
use Rattle.making.proofs.MadeLaw.{made-refused, made-accepted}
use Rattle.making.proofs.complete_suite.Goals as goal

pub returns-in_err-loaded : goal.returns-in_err-loaded
returns-in_err-loaded c = let a = c.args in
    let x = made-refused a.sheet.now a.buffer.now _ c.in_err-loaded.ensures.refused {r = c.from_residual.result} (search rules) in record { answer = x.0.answer; bytes = x.0.bytes; told = x.1 }

pub make-requires : goal.make-requires
make-requires c = let x = c.in_ok-loaded.ensures.opened in (x.sheet, x.holds)

pub returns : goal.returns
returns c = let a = c.args in
    let x = c.in_ok-loaded.ensures.opened in
    let y = made-accepted a.sheet.now a.buffer.now x.sheet x.is (c.make.ensures x.sheet x.holds) in record { answer = y.0.answer; bytes = y.0.bytes; told = y.1 }
