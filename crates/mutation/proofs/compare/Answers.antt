-- `compare`: a refusal of reading, or the operation on the accepted sheet.
use Rattle.std.proofs.Common.{rules, length}
use Rattle.mutation.proofs.OpenLaw.{compared-unread, compared-loaded, told-compared}
use Rattle.mutation.proofs.compare.Goals as goal

pub returns-in-Err : goal.returns-in-Err
returns-in-Err c = let a = c.args in
    let is = compared-unread a.sheet.now (rw c.in-Err.is at c.load.ensures.refused) a.mutant.now (length a.buffer.now) {buffer = a.buffer.now} (search rules) in
    record { answer = is.answer; bytes = is.bytes; told = told-compared a.sheet.now a.mutant.now (length a.buffer.now) is }

pub returns-in-Ok : goal.returns-in-Ok
returns-in-Ok c = let a = c.args in
    let o = rw c.in-Ok.is at c.load.ensures.opened in
    let is = compared-loaded a.sheet.now o.sheet o.is a.mutant.now (length a.buffer.now) (c.compare_loaded.ensures o.sheet o.holds) in
    record { answer = is.answer; bytes = is.bytes; told = told-compared a.sheet.now a.mutant.now (length a.buffer.now) is }
