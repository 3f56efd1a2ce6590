-- `first_high`: the boards before `at` have no choice that is too high.
use Rattle.std.specs.Prelude.{◌≡◌}
use Rattle.lists.specs.Proving.{arith, ◌∙◌, length}
use Rattle.sheet.specs.Sheet.{Sheet}
use Rattle.model.specs.Mutant.{slots}
use Rattle.block.specs.Tabled.{Tabled}
use Rattle.tray.proofs.HighLaw.{low-none, low-all, turn_end, turn_more, turn-high, turn_below}
use Rattle.tray.proofs.fitting.first_high.Goals as goal

pub loop-at-init : goal.loop-at-init
loop-at-init c = λ sh tb boards long. low-none long

pub overflow_add-end : goal.overflow_add-end
overflow_add-end c = let slots-count : (sh : Sheet) → Tabled sh c.args.block.now → c.from-count.result ≡ length (slots sh) = λ sh tb. c.from-count.ensures ∙ c.slots.ensures ∙ tb.count in
    let pre = c.requires in
    omega (arith, c.well_formed, (turn_end pre.0 (c.loop-at.invariant pre.0 pre.1 pre.2.0 pre.2.1) c.loop-at-test.true (slots-count pre.0 pre.1)).0)

pub slice_bounds-fits-end : goal.slice_bounds-fits-end
slice_bounds-fits-end c = let slots-count : (sh : Sheet) → Tabled sh c.args.block.now → c.from-count.result ≡ length (slots sh) = λ sh tb. c.from-count.ensures ∙ c.slots.ensures ∙ tb.count in
    let pre = c.requires in
    omega (arith, (turn_end pre.0 (c.loop-at.invariant pre.0 pre.1 pre.2.0 pre.2.1) c.loop-at-test.true (slots-count pre.0 pre.1)).0)

pub fits-requires : goal.fits-requires
fits-requires c = let pre = c.requires in (pre.0, pre.1)

pub overflow_add-result : goal.overflow_add-result
overflow_add-result c = let slots-count : (sh : Sheet) → Tabled sh c.args.block.now → c.from-count.result ≡ length (slots sh) = λ sh tb. c.from-count.ensures ∙ c.slots.ensures ∙ tb.count in
    let pre = c.requires in
    omega (arith, c.well_formed, turn_below pre.0 (c.loop-at.invariant pre.0 pre.1 pre.2.0 pre.2.1) c.loop-at-test.true (slots-count pre.0 pre.1) (c.fits.ensures pre.0 pre.1) c.in-Err.is)

pub returns-in-Err : goal.returns-in-Err
returns-in-Err c = let slots-count : (sh : Sheet) → Tabled sh c.args.block.now → c.from-count.result ≡ length (slots sh) = λ sh tb. c.from-count.ensures ∙ c.slots.ensures ∙ tb.count in
    λ sh tb boards long.
    turn-high sh (c.loop-at.invariant sh tb boards long) c.loop-at-test.true (slots-count sh tb) (c.fits.ensures sh tb) c.in-Err.is

pub loop-at-smaller : goal.loop-at-smaller
loop-at-smaller c = let slots-count : (sh : Sheet) → Tabled sh c.args.block.now → c.from-count.result ≡ length (slots sh) = λ sh tb. c.from-count.ensures ∙ c.slots.ensures ∙ tb.count in
    let pre = c.requires in
    omega (arith, c.loop-at-test.true, turn_end pre.0 (c.loop-at.invariant pre.0 pre.1 pre.2.0 pre.2.1) c.loop-at-test.true (slots-count pre.0 pre.1))

pub loop-at-preserved : goal.loop-at-preserved
loop-at-preserved c = let slots-count : (sh : Sheet) → Tabled sh c.args.block.now → c.from-count.result ≡ length (slots sh) = λ sh tb. c.from-count.ensures ∙ c.slots.ensures ∙ tb.count in
    λ sh tb boards long.
    turn_more sh (c.loop-at.invariant sh tb boards long) c.loop-at-test.true (slots-count sh tb) (c.fits.ensures sh tb) c.in_default.is

pub returns : goal.returns
returns c = λ sh tb boards long. low-all (c.loop-at.invariant sh tb boards long) c.loop-at-test.false
