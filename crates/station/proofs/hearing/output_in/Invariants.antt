use mathlib.Core.Path.{◌≡◌}
use Prim.Native.Nat.{ℕ}
use mathlib.Core.Option.{some}
use mathlib.Core.List.{List}
use lib.ListN.{take}
use Rattle.sheet.specs.Sheet.{Sheet, after}
use Rattle.station.specs.words.Parts.{Walk}
use Rattle.station.proofs.hearing.output_in.Given as goal

abbrev pub invariant-loop-j : goal.invariant-loop-j
invariant-loop-j l = (sh : Sheet) (t : List ℕ) → Walk sh t l.part l.tables → after sh.rules 0 (take l.j t) ≡ some l.s
