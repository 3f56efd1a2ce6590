-- `open_at`: those before x are counted.
use Rattle.std.specs.Prelude.{◌≡◌, ◌≤◌}
use Rattle.lists.specs.Lists.{count}
use Rattle.merging.specs.words.Outlined.{either_open}
use Rattle.merging.proofs.outline.open_at.Given as goal

abbrev pub invariant-loop-x : goal.invariant-loop-x
invariant-loop-x l = (l.n ≤ l.x) × (l.n ≡ count (either_open l.choices l.others l.s) l.x)
