use Rattle.std.proofs.Common.{ℕ, Bool, List}
use Rattle.sheet.specs.declared.Row.{Row}
use Rattle.sheet.specs.words.Tabled.{Leads}
use Rattle.ending.specs.words.Ending.{Marks}
use Rattle.ending.proofs.EndLaw as laws
use Rattle.ending.proofs.spread.Given as goal

abbrev pub invariant-loop-x : goal.invariant-loop-x
invariant-loop-x l = (rules : List Row) (g : ℕ → Bool) → Leads l.target rules → Marks l.initial.seen g → Marks l.seen (laws.spreading rules g l.s l.x)
