use Rattle.std.specs.Prelude.{◌+◌, ◌<◌, ◌≤◌}
use Rattle.lists.specs.Proving.{ℕ, get_or}
use Rattle.leaves.specs.Noted.{Clash}
use Rattle.leaves.proofs.notes.witnessed.Given as goal

abbrev pub invariant-loop-j : goal.invariant-loop-j
invariant-loop-j l = (l.j ≤ 32) × ((k : ℕ) → k < l.j → Clash (get_or l.notes (8 + k) 0) (get_or l.prefix k 0) → ⊥)
