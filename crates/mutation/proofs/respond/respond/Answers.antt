-- `respond`: the outputs of the inputs before i are written, and the slots they use are marked.
use native.Mathlib.Omega.{arith}
use Rattle.mutation.proofs.RespondLaw.{respond-start, place-low, respond-more, respond-marked, respond-end}
use Rattle.mutation.proofs.respond.respond.Goals as goal

pub loop-i-init : goal.loop-i-init
loop-i-init c = respond-start c.requires.runnable _ c.start_set-used.ensures

pub place-at-requires : goal.place-at-requires
place-at-requires c = place-low c.requires.runnable _ c.loop-i.invariant c.loop-i-test.true

pub bounds-buffer-i : goal.bounds-buffer-i
bounds-buffer-i c = omega (arith, c.loop-i.invariant.long, c.loop-i-test.true, c.requires.inputs_in_bounds)

pub loop-i-preserved : goal.loop-i-preserved
loop-i-preserved c = let inv = c.loop-i.invariant in
    let taken = c.loop-i-test.true in
    respond-more c.requires.runnable _ inv taken (omega (arith, inv.long, taken, c.requires.inputs_in_bounds)) c.place-at.ensures.0 c.marked-used.ensures

pub shape_of-buffer : goal.shape_of-buffer
shape_of-buffer c = c.loop-i.invariant.long

pub returns : goal.returns
returns c = record { buffer_after = respond-end c.requires.runnable _ c.loop-i.invariant c.loop-i-test.false; value = respond-marked c.requires.runnable _ c.loop-i.invariant c.loop-i-test.false }
