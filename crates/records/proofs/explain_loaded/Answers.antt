-- `explain_loaded`: 20, then room in both buffers, then the search.
use Rattle.std.proofs.Common.{rules, sym, ◌∙◌}
use Rattle.search.specs.laws.RoomLaw.{has-room}
use Rattle.records.proofs.OperateLaw.{from_front, explains-found, explains-broken, explains-no-room, explains-room}
use Rattle.records.proofs.explain_loaded.Goals as goal

pub returns-in_err-whole : goal.returns-in_err-whole
returns-in_err-whole c = λ sh sz. explains-broken sz c.args.log.now (sym c.whole.ensures ∙ c.in_err-whole.was) _ _ (search rules)

pub room-requires : goal.room-requires
room-requires c = (c.requires.0, c.requires.1.tabled)

pub returns-in-Err : goal.returns-in-Err
returns-in-Err c = λ sh sz. explains-no-room sz c.args.log.now (sym c.whole.ensures ∙ c.in_ok-whole.was) _ _ (sym (c.room.ensures sh sz.tabled) ∙ c.in-Err.is) (search rules)

pub first-requires : goal.first-requires
first-requires c = let (sh, sz) = c.requires in ((sh, from_front sz.tabled), has-room sz.tabled _ _ (sym (c.room.ensures sh sz.tabled) ∙ c.in_default.is))

pub returns : goal.returns
returns c = λ sh sz. explains-room sz c.args.log.now (sym c.whole.ensures ∙ c.in_ok-whole.was) _ _ (sym (c.room.ensures sh sz.tabled) ∙ c.in_default.is) (explains-found sz.tabled c.args.log.now _ (c.first.ensures sh (from_front sz.tabled)))
