-- `first_failed`: a refusal of reading, or the operation on the accepted sheet.
use Rattle.std.proofs.Common.{rules}
use Rattle.mutation.proofs.OpenLaw.{failed-unread, failed-loaded, told-failed}
use Rattle.mutation.proofs.first_failed.Goals as goal

pub returns-in-Err : goal.returns-in-Err
returns-in-Err c = let a = c.args in
    let is = failed-unread a.sheet.now (rw c.in-Err.is at c.load.ensures.refused) a.mutant.now (search rules) in
    record { answer = is; told = told-failed a.sheet.now a.mutant.now is }

pub returns-in-Ok : goal.returns-in-Ok
returns-in-Ok c = let a = c.args in
    let o = rw c.in-Ok.is at c.load.ensures.opened in
    let is = failed-loaded a.sheet.now o.sheet o.is a.mutant.now (c.first_failed_loaded.ensures o.sheet o.holds) in
    record { answer = is; told = told-failed a.sheet.now a.mutant.now is }
