-- `open_pairs`: those at the states before s are counted.
use Rattle.std.specs.Prelude.{◌≡◌, ◌*◌, ◌≤◌}
use Rattle.merging.specs.words.Outlined.{open_both}
use Rattle.merging.proofs.outline.open_pairs.Given as goal

abbrev pub invariant-loop-s : goal.invariant-loop-s
invariant-loop-s l = (l.n ≤ 16 * l.s) × (l.n ≡ open_both l.choices l.others l.inputs l.s)
