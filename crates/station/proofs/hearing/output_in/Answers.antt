use Prim.Native.Nat.{ℕ, ◌<◌, ◌/◌}
use native.Mathlib.Omega.{arith}
use native.Mathlib.Numerals.{add-one}
use mathlib.Core.Path.{◌≡◌}
use mathlib.Core.Option.{some}
use mathlib.Core.List.{List}
use lib.ListN.{length, take}
use Rattle.sheet.specs.Sheet.{Sheet, after}
use Rattle.station.proofs.WalkLaw.{state-low, press-low, walk-on, walk-output, walk_start, walk-out}
use Rattle.station.proofs.hearing.output_in.Goals as goal

reached : (sh : Sheet) (t : List ℕ) (j p s : ℕ) → j ≡ p → after sh.rules 0 (take j t) ≡ some s → after sh.rules 0 (take p t) ≡ some s
reached sh t j p s e h = rw (← e) h

pub returns-then-part-position : goal.returns-then-part-position
returns-then-part-position c = λ sh t w. walk-out w c.args.position c.if-part-position.true

pub loop-j-init : goal.loop-j-init
loop-j-init c = λ sh t w. walk_start sh t

pub overflow_mul-s : goal.overflow_mul-s
overflow_mul-s c = let (sh, t, w) = c.requires in
    let at = c.loop-j.invariant sh t w in
    let l : c.loop-j.j < length c.args.part.now / 2 = omega (arith, c.if-part-position.false, c.loop-j-test.true) in
    omega (arith, state-low w at l, press-low w at l, c.from.ensures)

pub overflow_add-s : goal.overflow_add-s
overflow_add-s c = let (sh, t, w) = c.requires in
    let at = c.loop-j.invariant sh t w in
    let l : c.loop-j.j < length c.args.part.now / 2 = omega (arith, c.if-part-position.false, c.loop-j-test.true) in
    omega (arith, state-low w at l, press-low w at l, c.from.ensures, c.from-in-loop-j.ensures)

pub bounds-tables-from : goal.bounds-tables-from
bounds-tables-from c = let (sh, t, w) = c.requires in
    let at = c.loop-j.invariant sh t w in
    let l : c.loop-j.j < length c.args.part.now / 2 = omega (arith, c.if-part-position.false, c.loop-j-test.true) in
    omega (arith, state-low w at l, press-low w at l, c.from.ensures, c.from-in-loop-j.ensures, c.told-tables)

pub loop-j-preserved : goal.loop-j-preserved
loop-j-preserved c =
    λ sh t w. rw add-one (walk-on w {j = c.loop-j.j} (c.loop-j.invariant sh t w) (omega (arith, c.if-part-position.false, c.loop-j-test.true)) (omega (arith, c.from.ensures, c.from-in-loop-j.ensures)))

pub overflow_mul-result : goal.overflow_mul-result
overflow_mul-result c = let (sh, t, w) = c.requires in
    let at = reached sh t c.loop-j.j c.args.position c.loop-j.s (omega (arith, c.loop-j-test.false)) (c.loop-j.invariant sh t w) in
    omega (arith, state-low w at c.if-part-position.false, press-low w at c.if-part-position.false, c.from-2.ensures)

pub overflow_add-result : goal.overflow_add-result
overflow_add-result c = let (sh, t, w) = c.requires in
    let at = reached sh t c.loop-j.j c.args.position c.loop-j.s (omega (arith, c.loop-j-test.false)) (c.loop-j.invariant sh t w) in
    omega (arith, state-low w at c.if-part-position.false, press-low w at c.if-part-position.false, c.from-2.ensures, c.from-3.ensures)

pub bounds-tables-from-2 : goal.bounds-tables-from-2
bounds-tables-from-2 c = let (sh, t, w) = c.requires in
    let at = reached sh t c.loop-j.j c.args.position c.loop-j.s (omega (arith, c.loop-j-test.false)) (c.loop-j.invariant sh t w) in
    omega (arith, state-low w at c.if-part-position.false, press-low w at c.if-part-position.false, c.from-2.ensures, c.from-3.ensures, c.told-tables)

pub returns : goal.returns
returns c = λ sh t w.
    let at = reached sh t c.loop-j.j c.args.position c.loop-j.s (omega (arith, c.loop-j-test.false)) (c.loop-j.invariant sh t w) in
    walk-output w {j = c.args.position} at c.if-part-position.false (omega (arith, c.from-2.ensures, c.from-3.ensures))
