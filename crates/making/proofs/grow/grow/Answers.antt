-- `grow`: from survivor to survivor, each test leaves less room.
use native.Mathlib.Omega.{arith}
use mathlib.Core.Path.{refl, sym, ap, ◌∙◌}
use Rattle.std.specs.Prelude.{Ok}
use Prim.Native.Nat.{ℕ}
use lib.ListN.{length-replicate}
use lib.Seq.{length-take-le}
use Rattle.making.specs.declared.grow.Growth.{Growth}
use Rattle.making.proofs.GrowLaw.{found_out, none-left, turning-start, sweep-asks, log-inside, block-formed, completes, fits-asks, no_room, append-asks, longer-asks, turning-more}
use Rattle.making.proofs.grow.grow.Goals as goal

pub loop-d-init : goal.loop-d-init
loop-d-init c = turning-start c.requires.facts_len c.requires.ready (length-replicate {A = ℕ} 9856 0) refl refl (length-replicate {A = ℕ} 256 0)

pub slice_bounds-next_survivor-end : goal.slice_bounds-next_survivor-end
slice_bounds-next_survivor-end c = log-inside c.loop-d.invariant

pub slice_bounds-next_survivor-end-in-loop-d : goal.slice_bounds-next_survivor-end-in-loop-d
slice_bounds-next_survivor-end-in-loop-d c = sym (length-take-le _ _ (log-inside c.loop-d.invariant))

pub slice_bounds-next_survivor-end-in-loop-d-2 : goal.slice_bounds-next_survivor-end-in-loop-d-2
slice_bounds-next_survivor-end-in-loop-d-2 c = sym c.loop-d.invariant.notes-long

pub next_survivor-found-requires : goal.next_survivor-found-requires
next_survivor-found-requires c = record { block_in_bounds = (sweep-asks c.loop-d.invariant).0; ready = (sweep-asks c.loop-d.invariant).1 }

pub unwrap-requires : goal.unwrap-requires
unwrap-requires c = found_out _ (λ e. omega (arith, c.next_survivor-found.ensures.store_ok.1 e, c.loop-d.invariant.same_store, c.requires.some))

pub returns-in_default : goal.returns-in_default
returns-in_default c = λ r sh gr.
    completes c.loop-d.invariant _ _ _ c.next_survivor-found.ensures.outcome_ok (c.unwrap.ensures ∙ ap Ok (none-left _ c.in_default.not-Some)) (c.loop-d.invariant.each r sh gr)

pub fits-requires : goal.fits-requires
fits-requires c = fits-asks c.loop-d.invariant _ _ _ c.next_survivor-found.ensures.outcome_ok (c.unwrap.ensures ∙ ap Ok c.in-Some.is)

pub returns-then-not-fits : goal.returns-then-not-fits
returns-then-not-fits c = λ r sh gr.
    (no_room c.loop-d.invariant _ _ _ c.next_survivor-found.ensures.outcome_ok (c.unwrap.ensures ∙ ap Ok c.in-Some.is) (sym c.fits.ensures ∙ c.if-not-fits.true) (c.loop-d.invariant.each r sh gr), c.new.ensures)

pub slice_bounds-sequence-end : goal.slice_bounds-sequence-end
slice_bounds-sequence-end c =
    let asked = fits-asks c.loop-d.invariant _ _ _ c.next_survivor-found.ensures.outcome_ok (c.unwrap.ensures ∙ ap Ok c.in-Some.is) in
    omega (arith, asked.1, c.next_survivor-found.auto.sequence, c.loop-d.invariant.long)

pub append-observed-requires : goal.append-observed-requires
append-observed-requires c = append-asks c.loop-d.invariant _ _ _ c.next_survivor-found.ensures.outcome_ok (c.unwrap.ensures ∙ ap Ok c.in-Some.is) (sym c.fits.ensures ∙ c.if-not-fits.false)

pub note_test-requires : goal.note_test-requires
note_test-requires c = c.loop-d.invariant.facts-long

pub slice_bounds-test_survivors-end : goal.slice_bounds-test_survivors-end
slice_bounds-test_survivors-end c =
    let asked = append-asks c.loop-d.invariant _ _ _ c.next_survivor-found.ensures.outcome_ok (c.unwrap.ensures ∙ ap Ok c.in-Some.is) (sym c.fits.ensures ∙ c.if-not-fits.false) in
    (c.append-observed.ensures asked.0 asked.1 asked.2).inside

pub slice_bounds-test_survivors-end-in-loop-d : goal.slice_bounds-test_survivors-end-in-loop-d
slice_bounds-test_survivors-end-in-loop-d c =
    let asked = append-asks c.loop-d.invariant _ _ _ c.next_survivor-found.ensures.outcome_ok (c.unwrap.ensures ∙ ap Ok c.in-Some.is) (sym c.fits.ensures ∙ c.if-not-fits.false) in
    sym (length-take-le _ _ (c.append-observed.ensures asked.0 asked.1 asked.2).inside)

pub test_survivors-requires : goal.test_survivors-requires
test_survivors-requires c = block-formed c.loop-d.invariant

pub longer-growth-requires : goal.longer-growth-requires
longer-growth-requires c = longer-asks c.loop-d.invariant _ _ _ c.next_survivor-found.ensures.outcome_ok (c.unwrap.ensures ∙ ap Ok c.in-Some.is) (sym c.fits.ensures ∙ c.if-not-fits.false)

pub loop-d-smaller : goal.loop-d-smaller
loop-d-smaller c =
    let asked = longer-asks c.loop-d.invariant _ _ _ c.next_survivor-found.ensures.outcome_ok (c.unwrap.ensures ∙ ap Ok c.in-Some.is) (sym c.fits.ensures ∙ c.if-not-fits.false) in
    omega (arith, ap (λ (g : Growth). g.room) c.longer-growth.ensures, asked.0)

pub loop-d-preserved : goal.loop-d-preserved
loop-d-preserved c =
    let swept = c.next_survivor-found in
    turning-more c.loop-d.invariant _ _ _ swept.ensures.outcome_ok (c.unwrap.ensures ∙ ap Ok c.in-Some.is) (sym c.fits.ensures ∙ c.if-not-fits.false) _ _ _ _ _ _ c.append-observed.ensures c.longer-growth.ensures c.note_test.ensures
    swept.ensures.store_ok.0 swept.auto.store swept.auto.notes c.append-observed.auto.bytes c.append-observed.auto.log
    swept.auto.sequence
