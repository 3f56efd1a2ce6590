use mathlib.Core.Path.{◌≡◌}
use Rattle.sheet.specs.Sheet.{Sheet, open_below, waking_slots}
use Rattle.ending.specs.words.Ending.{Linked}
use Prim.Native.Nat.{◌+◌, ◌*◌, ◌≤◌}
use Rattle.ending.proofs.open_slots.Given as goal

abbrev pub invariant-loop-s : goal.invariant-loop-s
invariant-loop-s l = (l.n ≤ 1 + 16 * l.s)
    × ((sh : Sheet) → l.size ≡ sh.size → Linked l.unruled l.target l.faulty sh → l.initial.n ≡ waking_slots sh → l.n ≡ waking_slots sh + open_below sh l.s)
