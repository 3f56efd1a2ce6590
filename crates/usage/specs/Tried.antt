-- What marking the slots of tests asks.
use Rattle.std.specs.Prelude.{Option as Maybe, Some, None}
use Rattle.std.specs.Prelude.{ℕ, ◌+◌, ◌*◌, ◌≤◌, ◌<◌, List, length, get_or}
use Rattle.std.proofs.Math.Option.{Option, none, some}
use Rattle.model.specs.Suite.{Place}
use Rattle.logs.specs.declared.walk.Wrong.{Wrong}
use Rattle.block.specs.declared.packing.Loaded.{Loaded}

-- the tests stand in the sheet
pub record Inside (sheet starts lengths : List ℕ) (n : ℕ) : Type 0 where
  pub few : n ≤ 256
  pub each : (t : ℕ) → t < n → get_or starts t 0 + 2 * get_or lengths t 0 ≤ length sheet

-- the tests of what loading gives stand in its sheet
abbrev pub InsideOf : Loaded → Type 0
InsideOf l = Inside l.sheet.now l.starts l.lengths l.size.tests

abbrev pub place_of : Maybe Wrong → Option Place
place_of None = none
place_of (Some w) = some (record { test = w.test; position = w.position })

-- the wrong output is one of a test's
abbrev pub Reached : List ℕ → ℕ → Maybe Wrong → Type 0
Reached lengths n None = Unit {0}
Reached lengths n (Some w) = (w.test < n) × (w.position < get_or lengths w.test 0)
