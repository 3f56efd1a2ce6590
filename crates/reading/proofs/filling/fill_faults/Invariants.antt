use Rattle.std.proofs.Common.{◌≡◌, List, [], length, take}
use Rattle.sheet.specs.declared.Row.{Row}
use Rattle.reading.specs.words.Places.{FaultsFrom, FaultTables}
use Rattle.reading.proofs.filling.fill_faults.Given as goal

abbrev pub invariant-loop-i : goal.invariant-loop-i
invariant-loop-i it = record {
  noted : (l : List Row) → FaultsFrom it.sheet it.place l → it.faults ≡ length l → FaultTables it.initial.tables [] → FaultTables it.tables (take it.i l);
  others : it.tables ≡ record it.initial.tables { choices = it.tables.choices; first = it.tables.first; mutated = it.tables.mutated; diverted = it.tables.diverted };
}
