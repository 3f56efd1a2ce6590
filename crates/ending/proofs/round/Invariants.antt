use Rattle.std.proofs.Common.{ℕ, Bool, List}
use Rattle.sheet.specs.declared.Row.{Row}
use Rattle.sheet.specs.words.Tabled.{Leads}
use Rattle.ending.specs.words.Ending.{Marks, Follows}
use Rattle.ending.proofs.EndLaw as laws
use Rattle.ending.proofs.round.Given as goal

abbrev pub invariant-loop-s : goal.invariant-loop-s
invariant-loop-s l = (rules : List Row) (f g : ℕ → Bool) → Leads l.target rules → Marks l.done f → Marks l.seen g → Follows l.size rules f g → Marks l.next (laws.rounding l.size rules g l.s)
