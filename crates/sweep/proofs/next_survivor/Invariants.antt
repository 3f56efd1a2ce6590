-- `next_survivor`: no mutant before p survives, and the store stays right.
use Rattle.sweep.proofs.SweepLaw.{Sweeping, left}
use Rattle.sweep.proofs.next_survivor.Given as goal

abbrev pub invariant-loop-turned : goal.invariant-loop-turned
invariant-loop-turned l = Sweeping l.block l.log l.initial.p l.initial.blame l.p l.blame l.initial.store l.store l.initial.notes l.notes l.initial.sequence l.sequence

abbrev pub decreases-loop-turned : goal.decreases-loop-turned
decreases-loop-turned l = left l.p
