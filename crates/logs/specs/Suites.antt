-- The suite of an accepted sheet as it is read, and its log.
use Rattle.std.specs.Prelude.{ℕ, ◌≤◌, ◌≡◌, List, length, take}
use Rattle.sheet.specs.Sheet.{Sheet}
use Rattle.sheet.specs.Encode.{encode}
use Rattle.sheet.specs.Tables.{tables_of}
use Rattle.model.specs.Log.{suite_log}
use Rattle.block.specs.Logged.{observations, log_bytes}
use Rattle.block.specs.Tabled.{Tabled}
use Rattle.block.specs.declared.packing.Loaded.{Loaded}

-- the sheet's bytes, where its tests stand in them, its tables in the block, and room for the suite's log
pub record SuiteIn (sh : Sheet) (s starts lengths : List ℕ) (tests : ℕ) (m : List ℕ) (room : ℕ) : Type 0 where
  pub tabled : Tabled sh m
  pub bytes : encode sh ≡ s
  pub starts-are : starts ≡ (tables_of sh).starts
  pub lengths-are : lengths ≡ (tables_of sh).lengths
  pub many : tests ≡ length sh.tests
  pub fits : length (log_bytes (suite_log sh)) ≤ room

-- the same, of what loading gives
abbrev pub SuiteOf : Sheet → Loaded → ℕ → Type 0
SuiteOf sh l room = SuiteIn sh l.sheet.now l.starts l.lengths l.size.tests l.block room

-- the first n bytes are the suite's log
pub record Logged (sh : Sheet) (log : List ℕ) (n : ℕ) : Type 0 where
  pub inside : n ≤ length log
  pub bytes : take n log ≡ log_bytes (suite_log sh)
  pub is : observations (take n log) ≡ suite_log sh
