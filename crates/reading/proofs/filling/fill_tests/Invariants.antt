use Rattle.std.proofs.Common.{ℕ, ◌≡◌, ◌≤◌, List, length}
use Rattle.reading.specs.words.Places.{TestsFrom, TestTables}
use Rattle.reading.proofs.FillLaw as laws
use Rattle.reading.proofs.filling.fill_tests.Given as goal

abbrev pub invariant-loop-i : goal.invariant-loop-i
invariant-loop-i it = record {
  within : it.at ≤ length it.sheet;
  noted : (l : List (List ℕ)) → TestsFrom it.sheet it.place l → it.tests ≡ length l → TestTables it.initial.tables it.place l 0 → laws.Testing it.sheet it.place l it.tables it.at it.i;
  others : it.tables ≡ record it.initial.tables { starts = it.tables.starts; lengths = it.tables.lengths };
}
