use Rattle.lists.specs.Options.{coded}
use Prim.Native.Nat.{ℕ, ◌-◌}
use mathlib.Core.Path.{sym, ◌∙◌, ap}
use mathlib.Core.List.{List, []}
use lib.ListN.{get_or}
use Rattle.station.specs.Station.{element_at, expected}
use Rattle.station.proofs.PressLaw.{part-is, current-is}
use Rattle.station.proofs.WalkLaw.{walks, none-expected}
use Rattle.station.proofs.hearing.output_at.Goals as goal

pub returns-then-begun-eq0 : goal.returns-then-begun-eq0
returns-then-begun-eq0 c = λ sh r. none-expected sh c.args.begun c.args.position c.if-begun-eq0.true

pub output_in-requires : goal.output_in-requires
output_in-requires c = let (sh, r) = c.requires in
    let a = c.args in
    let i = a.begun - 1 in
    (sh, get_or sh.tests i [], walks r i (c.test_part-part.ensures.bytes ∙ part-is a.sheet.now sh i r.read))

pub returns : goal.returns
returns c = λ sh r.
    let a = c.args in
    let i = a.begun - 1 in
    c.output_in.ensures sh (get_or sh.tests i []) (walks r i (c.test_part-part.ensures.bytes ∙ part-is a.sheet.now sh i r.read))
    ∙ ap (λ (t : List ℕ). coded (element_at (expected sh t) a.position)) (sym (current-is sh.tests a.begun c.if-begun-eq0.false))
