use Rattle.lists.specs.Options.{coded}
use Prim.Native.Nat.{◌-◌}
use mathlib.Core.Path.{sym, ◌∙◌, ap}
use mathlib.Core.List.{List, []}
use lib.ListN.{get_or}
use Rattle.station.specs.Station.{element_at}
use Prim.Native.Nat.{ℕ}
use Rattle.station.proofs.PressLaw.{part-is, none-begun, current-is}
use Rattle.station.proofs.steps.input_at.Goals as goal

pub returns-then-begun-eq0 : goal.returns-then-begun-eq0
returns-then-begun-eq0 c = λ sh e. none-begun sh.tests c.args.begun c.args.position c.if-begun-eq0.true

pub returns : goal.returns
returns c = λ sh e.
    let a = c.args in
    let i = a.begun - 1 in
    c.input_in.ensures (get_or sh.tests i []) (c.test_part-part.ensures.bytes ∙ part-is a.sheet.now sh i e)
    ∙ ap (λ (t : List ℕ). coded (element_at t a.position)) (sym (current-is sh.tests a.begun c.if-begun-eq0.false))
