-- `take_loaded`: 13 and 14, then room in both buffers, then the next mutant: a short array for the log of a short sheet, a long one for any
-- other.
use Rattle.std.proofs.Common.{rules, sym, ◌∙◌}
use native.Mathlib.Omega.{arith}
use Rattle.logs.specs.laws.SuitesLaw.{suite-short, suite-long}
use Rattle.search.specs.laws.RoomLaw.{has-room}
use Rattle.walking.proofs.TakingLaw.{last-ok, takes-unfit, takes-no-room, takes-stop, takes-from}
use Rattle.walking.proofs.take_loaded.Goals as goal

pub returns-in_err-begins : goal.returns-in_err-begins
returns-in_err-begins c = λ sh ld. takes-unfit sh _ _ _ (c.in_err-begins.ensures sh ld.loads.tabled) (search rules)

pub returns-in_err-room : goal.returns-in_err-room
returns-in_err-room c = λ sh ld. let tb = ld.loads.tabled in
    takes-no-room sh _ _ _ _ (c.in_ok-begins.ensures sh tb) (sym (c.room.ensures sh tb) ∙ c.in_err-room.was) (search rules)

pub returns-in_default : goal.returns-in_default
returns-in_default c = λ sh ld. let tb = ld.loads.tabled in
    takes-stop sh _ _ _ _ (c.in_ok-begins.ensures sh tb) (sym (c.room.ensures sh tb) ∙ c.in_ok-room.was) c.in_default.is

pub next_logged-requires : goal.next_logged-requires
next_logged-requires c = let (sh, ld) = c.requires in
    let tb = ld.loads.tabled in
    record {
      room = omega arith;
      loaded =
          ((sh, suite-short ld (omega (arith, c.if-loaded-le1024.true)), last-ok sh _ _ (c.in_ok-begins.ensures sh tb) c.in-Some.is), has-room tb _ _ (sym (c.room.ensures sh tb) ∙ c.in_ok-room.was));
    }

pub next_logged-requires-else-loaded-le1024 : goal.next_logged-requires-else-loaded-le1024
next_logged-requires-else-loaded-le1024 c = let (sh, ld) = c.requires in
    let tb = ld.loads.tabled in
    record {
      room = omega arith;
      loaded = ((sh, suite-long ld (omega arith), last-ok sh _ _ (c.in_ok-begins.ensures sh tb) c.in-Some.is), has-room tb _ _ (sym (c.room.ensures sh tb) ∙ c.in_ok-room.was));
    }

pub returns-then-loaded-le1024 : goal.returns-then-loaded-le1024
returns-then-loaded-le1024 c = λ sh ld. let tb = ld.loads.tabled in
    let be = c.in_ok-begins.ensures sh tb in
    takes-from sh _ _ _ _ be (sym (c.room.ensures sh tb) ∙ c.in_ok-room.was) c.in-Some.is
    (c.next_logged.ensures sh (suite-short ld (omega (arith, c.if-loaded-le1024.true))) (last-ok sh _ _ be c.in-Some.is)) (search rules)

pub returns-else-loaded-le1024 : goal.returns-else-loaded-le1024
returns-else-loaded-le1024 c = λ sh ld. let tb = ld.loads.tabled in
    let be = c.in_ok-begins.ensures sh tb in
    takes-from sh _ _ _ _ be (sym (c.room.ensures sh tb) ∙ c.in_ok-room.was) c.in-Some.is
    (c.next_logged-else-loaded-le1024.ensures sh (suite-long ld (omega arith)) (last-ok sh _ _ be c.in-Some.is)) (search rules)
