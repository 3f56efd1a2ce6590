-- `try_boards`: the results of the first i stand at the front.
use Rattle.std.specs.Prelude.{◌≡◌}
use Rattle.lists.specs.Proving.{arith, ◌∙◌, length}
use Rattle.sheet.specs.Sheet.{Sheet}
use Rattle.model.specs.Mutant.{slots}
use Rattle.search.specs.Search.{ForSheet}
use Rattle.tray.proofs.TryLaw.{tried-none, tried-end, tried-room, tried-mutant, tried-more, tried-all}
use Rattle.tray.proofs.boards.try_boards.Goals as goal

pub loop-i-init : goal.loop-i-init
loop-i-init c = λ sh su tr. tried-none

pub overflow_add-end : goal.overflow_add-end
overflow_add-end c = let slots-count : (sh : Sheet) → ForSheet sh c.args.block.now c.args.log.now → c.from-count.result ≡ length (slots sh) = λ sh su. c.from-count.ensures ∙ c.slots.ensures ∙ su.tabled.count in
    let pre = c.requires in
    omega (arith, c.well_formed, tried-end pre.2 c.loop-i-test.true (slots-count pre.0 pre.1) (c.loop-i.invariant pre.0 pre.1 pre.2))

pub slice_bounds-try_board-end : goal.slice_bounds-try_board-end
slice_bounds-try_board-end c = let slots-count : (sh : Sheet) → ForSheet sh c.args.block.now c.args.log.now → c.from-count.result ≡ length (slots sh) = λ sh su. c.from-count.ensures ∙ c.slots.ensures ∙ su.tabled.count in
    let pre = c.requires in
    omega (arith, tried-end pre.2 c.loop-i-test.true (slots-count pre.0 pre.1) (c.loop-i.invariant pre.0 pre.1 pre.2))

pub try_board-requires : goal.try_board-requires
try_board-requires c = let slots-count : (sh : Sheet) → ForSheet sh c.args.block.now c.args.log.now → c.from-count.result ≡ length (slots sh) = λ sh su. c.from-count.ensures ∙ c.slots.ensures ∙ su.tabled.count in
    let pre = c.requires in
    (pre.0, pre.1, tried-mutant pre.2 c.loop-i-test.true (slots-count pre.0 pre.1) (c.loop-i.invariant pre.0 pre.1 pre.2))

pub offset_bounds-results-i : goal.offset_bounds-results-i
offset_bounds-results-i c = let slots-count : (sh : Sheet) → ForSheet sh c.args.block.now c.args.log.now → c.from-count.result ≡ length (slots sh) = λ sh su. c.from-count.ensures ∙ c.slots.ensures ∙ su.tabled.count in
    let pre = c.requires in
    let inv = c.loop-i.invariant pre.0 pre.1 pre.2 in
    omega (arith, c.well_formed, inv.long, tried-room pre.2 c.loop-i-test.true (slots-count pre.0 pre.1) inv)

pub bounds-results-i : goal.bounds-results-i
bounds-results-i c = let slots-count : (sh : Sheet) → ForSheet sh c.args.block.now c.args.log.now → c.from-count.result ≡ length (slots sh) = λ sh su. c.from-count.ensures ∙ c.slots.ensures ∙ su.tabled.count in
    let pre = c.requires in
    tried-room pre.2 c.loop-i-test.true (slots-count pre.0 pre.1) (c.loop-i.invariant pre.0 pre.1 pre.2)

pub loop-i-preserved : goal.loop-i-preserved
loop-i-preserved c = λ sh su tr.
    let inv = c.loop-i.invariant sh su tr in
    let count = c.from-count.ensures ∙ c.slots.ensures ∙ su.tabled.count in
    tried-more tr c.loop-i-test.true count inv (c.try_board.ensures sh su (tried-mutant tr c.loop-i-test.true count inv))

pub shape_of-results : goal.shape_of-results
shape_of-results c = let pre = c.requires in
    (c.loop-i.invariant pre.0 pre.1 pre.2).long

pub returns : goal.returns
returns c = λ sh su tr. tried-all c.loop-i.auto.i-end c.loop-i-test.false (c.loop-i.invariant sh su tr)
