use Rattle.std.specs.Prelude.{◌-◌, ◌%◌, ◌≤◌}
use lib.Count.{ones}
use Rattle.store.specs.Live.{Admitted}
use Rattle.store.proofs.live.admit_all.Given as goal

abbrev pub invariant-loop-w : goal.invariant-loop-w
invariant-loop-w l = (l.w ≤ 32) × Admitted l.w (ones l.settled % 64 % 34) l.initial.notes l.notes

abbrev pub decreases-loop-w : goal.decreases-loop-w
decreases-loop-w l = 32 - l.w
