use mathlib.Core.Path.{◌≡◌}
use Rattle.sheet.specs.Sheet.{Sheet, is_open}
use Rattle.lists.specs.Lists.{count}
use Rattle.ending.specs.words.Ending.{Linked}
use Prim.Native.Nat.{◌≤◌}
use Rattle.ending.proofs.open_at.Given as goal

abbrev pub invariant-loop-x : goal.invariant-loop-x
invariant-loop-x l = (l.n ≤ l.x) × ((sh : Sheet) → Linked l.unruled l.target l.faulty sh → l.n ≡ count (is_open sh l.s) l.x)
