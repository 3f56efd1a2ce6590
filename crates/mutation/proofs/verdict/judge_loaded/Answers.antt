-- `judge_loaded`: room in both buffers, then the judgement: a short array for the log of a short sheet, a long one for any other.
use Rattle.std.proofs.Common.{rules, refl, sym, ◌∙◌}
use native.Mathlib.Omega.{arith}
use Rattle.logs.specs.laws.SuitesLaw.{suite-short, suite-long}
use Rattle.search.specs.laws.RoomLaw.{has-room}
use Rattle.mutation.proofs.JudgingLaw.{judges-refused, judges-room}
use Rattle.mutation.proofs.verdict.judge_loaded.Goals as goal

pub returns-in-Err : goal.returns-in-Err
returns-in-Err c = record { judges = λ sh ld. judges-refused sh _ _ (sym (c.room.ensures sh ld.loads.tabled) ∙ c.in-Err.is) (search rules); measured = refl }

pub judge_logged-requires : goal.judge_logged-requires
judge_logged-requires c = let (sh, ld) = c.requires in
    let tb = ld.loads.tabled in
    record { room = omega arith; loaded = ((sh, suite-short ld (omega (arith, c.if-loaded-le1024.true))), has-room tb _ _ (sym (c.room.ensures sh tb) ∙ c.in_default.is)) }

pub judge_logged-requires-else-loaded-le1024 : goal.judge_logged-requires-else-loaded-le1024
judge_logged-requires-else-loaded-le1024 c = let (sh, ld) = c.requires in
    let tb = ld.loads.tabled in
    record { room = omega arith; loaded = ((sh, suite-long ld (omega arith)), has-room tb _ _ (sym (c.room.ensures sh tb) ∙ c.in_default.is)) }

pub returns-then-loaded-le1024 : goal.returns-then-loaded-le1024
returns-then-loaded-le1024 c = record {
  judges = λ sh ld. judges-room sh _ _ (sym (c.room.ensures sh ld.loads.tabled) ∙ c.in_default.is) (c.judge_logged.ensures sh (suite-short ld (omega (arith, c.if-loaded-le1024.true))));
  measured = tt;
}

pub returns-else-loaded-le1024 : goal.returns-else-loaded-le1024
returns-else-loaded-le1024 c = record {
  judges = λ sh ld. judges-room sh _ _ (sym (c.room.ensures sh ld.loads.tabled) ∙ c.in_default.is) (c.judge_logged-else-loaded-le1024.ensures sh (suite-long ld (omega arith)));
  measured = tt;
}
