-- `run`: a refusal of reading, or the operation on the accepted sheet.
use Rattle.std.proofs.Common.{rules, length}
use Rattle.mutation.proofs.OpenLaw.{ran-unread, ran-loaded, told-ran}
use Rattle.mutation.proofs.run.Goals as goal

pub returns-in-Err : goal.returns-in-Err
returns-in-Err c = let a = c.args in
    let is = ran-unread a.sheet.now (rw c.in-Err.is at c.load.ensures.refused) a.mutant.now a.inputs.now (length a.buffer.now) {buffer = a.buffer.now} (search rules) in
    record { answer = is.answer; bytes = is.bytes; told = told-ran a.sheet.now a.mutant.now a.inputs.now (length a.buffer.now) is }

pub returns-in-Ok : goal.returns-in-Ok
returns-in-Ok c = let a = c.args in
    let o = rw c.in-Ok.is at c.load.ensures.opened in
    let is = ran-loaded a.sheet.now o.sheet o.is a.mutant.now a.inputs.now (length a.buffer.now) (c.run_loaded.ensures o.sheet o.holds) in
    record { answer = is.answer; bytes = is.bytes; told = told-ran a.sheet.now a.mutant.now a.inputs.now (length a.buffer.now) is }
