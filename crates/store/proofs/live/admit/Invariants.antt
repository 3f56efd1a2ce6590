use Rattle.std.specs.Prelude.{◌-◌, ◌≤◌}
use Rattle.leaves.specs.Noted.{Changed}
use Rattle.store.proofs.live.admit.Given as goal

abbrev pub invariant-loop-n : goal.invariant-loop-n
invariant-loop-n l = (l.n ≤ 34) × Changed 8768 9856 l.initial.notes l.notes

abbrev pub decreases-loop-n : goal.decreases-loop-n
decreases-loop-n l = 34 - l.n
