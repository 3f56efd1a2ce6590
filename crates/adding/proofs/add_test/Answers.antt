-- `add_test`: refused as reading refuses, or what becomes of the sheet that was read.
use Rattle.std.proofs.Common.{rules}
use Rattle.adding.proofs.AddLaw.{add-refused, add-accepted}
use Rattle.adding.proofs.add_test.Goals as goal

pub returns-in-Err : goal.returns-in-Err
returns-in-Err c = let a = c.args in
    let x = add-refused a.sheet.now a.presses.now a.buffer.now (rw c.in-Err.is at c.load.ensures.refused) in record { answer = search (rules, x.0.answer); bytes = x.0.bytes; told = search (rules, x.1) }

pub add_read-requires : goal.add_read-requires
add_read-requires c = let x = rw c.in-Ok.is at c.load.ensures.opened in (x.sheet, x.holds)

pub returns-in-Ok : goal.returns-in-Ok
returns-in-Ok c = let a = c.args in
    let x = rw c.in-Ok.is at c.load.ensures.opened in
    let y = add-accepted a.sheet.now a.presses.now a.buffer.now x.sheet x.is (c.add_read.ensures x.sheet x.holds) in record { answer = y.0.answer; bytes = y.0.bytes; told = y.1 }
