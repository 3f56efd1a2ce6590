-- `try_loaded`: 13, 14 and 16, then the results: a short array for the log of a short sheet, a long one for any other.
use Rattle.std.specs.Prelude.{◌≡◌}
use Rattle.lists.specs.Proving.{arith, ◌∙◌, length}
use Rattle.sheet.specs.Sheet.{Sheet}
use Rattle.model.specs.Mutant.{slots}
use Rattle.block.specs.Tabled.{Tabled}
use Rattle.logs.specs.laws.SuitesLaw.{suite-short, suite-long}
use Rattle.tray.proofs.OutcomeLaw.{tries-length, tray-long, tries-high, tries-short, tray-of, tries-done}
use Rattle.tray.proofs.boards.try_loaded.Goals as goal

pub returns-then-not-is_tray : goal.returns-then-not-is_tray
returns-then-not-is_tray c = let a = c.args in
    λ sh ld. rw c.new.ensures (tries-length sh a.boards a.tray.now a.results.now (c.from.ensures ∙ c.slots.ensures ∙ ld.loads.tabled.count) c.is_tray.ensures c.if-not-is_tray.true)

pub first_high-requires : goal.first_high-requires
first_high-requires c = let a = c.args in
    let (sh, ld) = c.requires in
    let tb = ld.loads.tabled in
    (sh, tb, (a.boards, tray-long sh a.boards a.tray.now a.results.now (c.from.ensures ∙ c.slots.ensures ∙ tb.count) c.is_tray.ensures c.if-not-is_tray.false))

pub returns-in-Some : goal.returns-in-Some
returns-in-Some c = let a = c.args in
    λ sh ld.
    let tb = ld.loads.tabled in
    let count = c.from.ensures ∙ c.slots.ensures ∙ tb.count in
    let long = tray-long sh a.boards a.tray.now a.results.now count c.is_tray.ensures c.if-not-is_tray.false in
    rw c.new-in-Some.ensures (tries-high sh a.boards a.tray.now a.results.now count c.is_tray.ensures c.if-not-is_tray.false (c.first_high.ensures sh tb a.boards long) c.in-Some.is)

pub returns-then-results-boards : goal.returns-then-results-boards
returns-then-results-boards c = let a = c.args in
    λ sh ld.
    let tb = ld.loads.tabled in
    let count = c.from.ensures ∙ c.slots.ensures ∙ tb.count in
    let long = tray-long sh a.boards a.tray.now a.results.now count c.is_tray.ensures c.if-not-is_tray.false in
    rw c.new-then-results-boards.ensures (tries-short sh a.boards a.tray.now a.results.now count c.is_tray.ensures c.if-not-is_tray.false (c.first_high.ensures sh tb a.boards long) c.in_default.is c.if-results-boards.true)

pub try_logged-requires : goal.try_logged-requires
try_logged-requires c = let a = c.args in
    let (sh, ld) = c.requires in
    let tb = ld.loads.tabled in
    let count = c.from.ensures ∙ c.slots.ensures ∙ tb.count in
    let long = tray-long sh a.boards a.tray.now a.results.now count c.is_tray.ensures c.if-not-is_tray.false in
    record {
      room = omega arith;
      loaded = (sh, suite-short ld (omega (arith, c.if-loaded-le1024.true)), tray-of sh a.boards a.tray.now a.results.now count c.is_tray.ensures c.if-not-is_tray.false (c.first_high.ensures sh tb a.boards long) c.in_default.is c.if-results-boards.false);
    }

pub try_logged-requires-else-loaded-le1024 : goal.try_logged-requires-else-loaded-le1024
try_logged-requires-else-loaded-le1024 c = let a = c.args in
    let (sh, ld) = c.requires in
    let tb = ld.loads.tabled in
    let count = c.from.ensures ∙ c.slots.ensures ∙ tb.count in
    let long = tray-long sh a.boards a.tray.now a.results.now count c.is_tray.ensures c.if-not-is_tray.false in
    record {
      room = omega arith;
      loaded = (sh, suite-long ld (omega arith), tray-of sh a.boards a.tray.now a.results.now count c.is_tray.ensures c.if-not-is_tray.false (c.first_high.ensures sh tb a.boards long) c.in_default.is c.if-results-boards.false);
    }

pub returns-then-loaded-le1024 : goal.returns-then-loaded-le1024
returns-then-loaded-le1024 c =
    let a = c.args in
    λ sh ld.
    let tb = ld.loads.tabled in
    let count = c.from.ensures ∙ c.slots.ensures ∙ tb.count in
    let long = tray-long sh a.boards a.tray.now a.results.now count c.is_tray.ensures c.if-not-is_tray.false in
    let high = c.first_high.ensures sh tb a.boards long in
    let tray = tray-of sh a.boards a.tray.now a.results.now count c.is_tray.ensures c.if-not-is_tray.false high c.in_default.is c.if-results-boards.false in
    tries-done sh a.boards a.tray.now a.results.now count c.is_tray.ensures c.if-not-is_tray.false high c.in_default.is c.if-results-boards.false (c.try_logged.ensures sh (suite-short ld (omega (arith, c.if-loaded-le1024.true))) tray)

pub returns-else-loaded-le1024 : goal.returns-else-loaded-le1024
returns-else-loaded-le1024 c =
    let a = c.args in
    λ sh ld.
    let tb = ld.loads.tabled in
    let count = c.from.ensures ∙ c.slots.ensures ∙ tb.count in
    let long = tray-long sh a.boards a.tray.now a.results.now count c.is_tray.ensures c.if-not-is_tray.false in
    let high = c.first_high.ensures sh tb a.boards long in
    let tray = tray-of sh a.boards a.tray.now a.results.now count c.is_tray.ensures c.if-not-is_tray.false high c.in_default.is c.if-results-boards.false in
    tries-done sh a.boards a.tray.now a.results.now count c.is_tray.ensures c.if-not-is_tray.false high c.in_default.is c.if-results-boards.false (c.try_logged-else-loaded-le1024.ensures sh (suite-long ld (omega arith)) tray)
