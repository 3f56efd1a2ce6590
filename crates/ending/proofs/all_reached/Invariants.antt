use Rattle.std.proofs.Common.{◌≡◌}
use Rattle.sheet.specs.Sheet.{Sheet}
use Rattle.sheet.specs.words.Tabled.{Leads}
use Rattle.ending.proofs.EndLaw.{Rounds}
use Rattle.ending.proofs.all_reached.Given as goal

abbrev pub invariant-loop : goal.invariant-loop
invariant-loop l = (sh : Sheet) → l.size ≡ sh.size → Leads l.target sh.rules → Rounds l.size sh l.counter l.done l.seen
