use native.Mathlib.Omega.{arith}
use mathlib.Core.Path.{◌∙◌}
use Rattle.station.proofs.PartsLaw.{same-by, part-long}
use Rattle.station.proofs.agree.tests_agree.Goals as goal

pub overflow_add-b : goal.overflow_add-b
overflow_add-b c = let (sh, h) = c.requires.tests_of in omega (arith, (c.tests_of-p.ensures sh h).inside, c.well_formed)

pub overflow_add-d : goal.overflow_add-d
overflow_add-d c = let (sh, h) = c.requires.tests_of_2 in omega (arith, (c.tests_of-q.ensures sh h).inside, c.well_formed)

pub slice_bounds-eq-end : goal.slice_bounds-eq-end
slice_bounds-eq-end c = let (sh, h) = c.requires.tests_of in (c.tests_of-p.ensures sh h).inside

pub slice_bounds-eq-end-2 : goal.slice_bounds-eq-end-2
slice_bounds-eq-end-2 c = let (sh, h) = c.requires.tests_of_2 in (c.tests_of-q.ensures sh h).inside

pub returns : goal.returns
returns c = let p = c.tests_of-p in
    let q = c.tests_of-q in
    λ a b h k. same-by c.eq.ensures (part-long c.args.sheet.now p.result.start p.result.length ∙ (p.ensures a h).bytes) (part-long c.args.changed.now q.result.start q.result.length ∙ (q.ensures b k).bytes)
