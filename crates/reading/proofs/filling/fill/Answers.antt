-- the places, from each to the one before
use Rattle.std.proofs.Common.{◌≡◌, ◌-◌, ◌/◌, ◌∙◌, ap, length, arith}
use Rattle.sheet.specs.declared.Tables.{Tables}
use Rattle.reading.specs.words.Places.{LaidOut}
use Rattle.reading.proofs.FillLaw.{faults-none, tests-none}
use Rattle.reading.proofs.SpanLaw.{faults-are, tests-are, laid_out}
use Rattle.reading.proofs.LoadLaw as laws
use Rattle.reading.proofs.filling.fill.Goals as goal

pub fill_faults-requires : goal.fill_faults-requires
fill_faults-requires c =
    let (sh, h) = c.requires.fillable in
    ((sh.faults, rw (c.layout_of-layout.ensures sh h.told.is) (laid_out h.told).faults, faults-are h.told), faults-none c.requires.cleared)

pub unruled_choices-unruled-requires : goal.unruled_choices-unruled-requires
unruled_choices-unruled-requires c = let (sh, h) = c.requires.fillable in laws.size_fits _ _ _ sh h

pub count_choices-requires : goal.count_choices-requires
count_choices-requires c =
    let (sh, h) = c.requires.fillable in
    let l : LaidOut c.args.sheet.now sh c.layout_of-layout.result = rw (c.layout_of-layout.ensures sh h.told.is) (laid_out h.told) in
    let f = c.fill_faults.ensures in
    (sh, laws.countable _ _ _ sh h _ (ap (λ (t : Tables). t.target) f.others) _ l.quiet _ c.unruled_choices-unruled.ensures (f.noted sh.faults l.faults (faults-are h.told)))

pub overflow_sub-starts : goal.overflow_sub-starts
overflow_sub-starts c =
    let (sh, h) = c.requires.fillable in
    let l : LaidOut c.args.sheet.now sh c.layout_of-layout.result = rw (c.layout_of-layout.ensures sh h.told.is) (laid_out h.told) in
    omega (arith, l.waking)

pub wakings_from-tables-requires : goal.wakings_from-tables-requires
wakings_from-tables-requires c =
    let (sh, h) = c.requires.fillable in
    let l : LaidOut c.args.sheet.now sh c.layout_of-layout.result = rw (c.layout_of-layout.ensures sh h.told.is) (laid_out h.told) in
    (sh.starts, l.starts, omega (arith, l.waking))

pub overflow_cast-tables : goal.overflow_cast-tables
overflow_cast-tables c =
    let (sh, h) = c.requires.fillable in
    let l : LaidOut c.args.sheet.now sh c.layout_of-layout.result = rw (c.layout_of-layout.ensures sh h.told.is) (laid_out h.told) in
    omega (arith, l.waking, l.starts.few)

pub fill_tests-requires : goal.fill_tests-requires
fill_tests-requires c =
    let (sh, h) = c.requires.fillable in
    let l : LaidOut c.args.sheet.now sh c.layout_of-layout.result = rw (c.layout_of-layout.ensures sh h.told.is) (laid_out h.told) in
    let f = c.fill_faults.ensures in
    (sh.tests, l.tests, tests-are h.told, tests-none (ap (λ (t : Tables). t.starts) f.others ∙ c.requires.cleared.starts-are) (ap (λ (t : Tables). t.lengths) f.others ∙ c.requires.cleared.lengths-are) _ _)

pub returns : goal.returns
returns c = λ sh h.
    let s = c.args.sheet.now in
    let laid = c.layout_of-layout.ensures sh h.told.is in
    let l : LaidOut s sh c.layout_of-layout.result = rw laid (laid_out h.told) in
    let f = c.fill_faults.ensures in
    let fs = f.noted sh.faults l.faults (faults-are h.told) in
    let n = c.count_choices.ensures sh (laws.countable s _ _ sh h _ (ap (λ (t : Tables). t.target) f.others) _ l.quiet _ c.unruled_choices-unruled.ensures fs) in
    let many : (c.layout_of-layout.result.tests - c.layout_of-layout.result.starts) / 2 ≡ length sh.starts = omega (arith, l.waking) in
    let w = c.wakings_from-tables.ensures sh.starts l.starts many in
    let t = c.fill_tests.ensures in
    let ts = t.noted sh.tests l.tests (tests-are h.told) (tests-none (ap (λ (t : Tables). t.starts) f.others ∙ c.requires.cleared.starts-are) (ap (λ (t : Tables). t.lengths) f.others ∙ c.requires.cleared.lengths-are) _ _) in
    t.others ∙ laws.filled s _ _ sh h _ f.others fs _ n _ w _ (omega (arith, many)) _ l.quiet _ (rw laid at ts)
