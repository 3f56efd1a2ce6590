-- `next_survivor`: no mutant before p survives, and the store stays right.
use native.Mathlib.Omega.{arith}
use mathlib.Core.Path.{refl, sym, ◌∙◌}
use Rattle.lists.specs.laws.TestLaw.{never}
use Rattle.sweep.proofs.SweepLaw.{full, sweeping-less, sweeping-more}
use Rattle.sweep.proofs.next_survivor.Goals as goal

pub loop-turned-init : goal.loop-turned-init
loop-turned-init c = record { some = c.requires.block_in_bounds.0; each = λ sh f s. s; kept = c.requires.ready.1; same_store = refl; same-notes = refl; same-sequence = refl }

pub turn-requires : goal.turn-requires
turn-requires c = let inv = c.loop-turned.invariant in record { full = ((inv.some.0, inv.some.1), full inv); block_in_bounds = omega (arith, c.requires.block_in_bounds.1, inv.same-sequence); ready = (c.requires.ready.0, inv.kept) }

pub returns-in_default-clause-outcome_ok : goal.returns-in_default-clause-outcome_ok
returns-in_default-clause-outcome_ok c = λ sh f s. c.loop-turned.invariant.each sh f s

pub returns-in-Survives : goal.returns-in-Survives
returns-in-Survives c = let inv = c.loop-turned.invariant in record { outcome_ok = λ sh f s. (inv.each sh f s, rw c.in-Survives.is at (rw c.in-Ok.is at (c.turn.ensures.turned_ok sh f))); store_ok = (c.turn.ensures.store_ok.0, λ e. never cc) }

pub advance-requires : goal.advance-requires
advance-requires c = let s = c.loop-turned.invariant.some in (s.0, s.1.tabled, s.2, rw c.in-Cleared.is at (rw c.in-Ok.is at (c.turn.ensures.turned_ok s.0 s.1)))

pub returns-then-not-advance : goal.returns-then-not-advance
returns-then-not-advance c = let none = c.if-not-advance.true in record {
  outcome_ok = λ sh f s. rw none at (c.advance.ensures sh f.tabled (c.loop-turned.invariant.each sh f s) (rw c.in-Cleared.is at (rw c.in-Ok.is at (c.turn.ensures.turned_ok sh f))));
  store_ok = (c.turn.ensures.store_ok.0, λ e. never cc);
}

pub loop-turned-smaller : goal.loop-turned-smaller
loop-turned-smaller c = let some = c.if-not-advance.false in
    sweeping-less c.loop-turned.invariant (λ sh f. rw c.in-Cleared.is at (rw c.in-Ok.is at (c.turn.ensures.turned_ok sh f))) (λ sh tb s re. rw some at (c.advance.ensures sh tb s re))

pub loop-turned-preserved : goal.loop-turned-preserved
loop-turned-preserved c = let some = c.if-not-advance.false in
    sweeping-more c.loop-turned.invariant (λ sh f. rw c.in-Cleared.is at (rw c.in-Ok.is at (c.turn.ensures.turned_ok sh f))) (λ sh tb s re. rw some at (c.advance.ensures sh tb s re))
    c.turn.ensures.store_ok.0 c.turn.auto.store c.turn.auto.notes c.turn.auto.sequence
