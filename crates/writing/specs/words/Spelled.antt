-- What the functions that spell promise one another.
use Rattle.std.specs.Prelude.{ℕ, ◌+◌, ◌*◌, ◌/◌, ◌≡◌, Bool, List, ◌++◌, length, take, drop}
use Rattle.sheet.specs.Encode.{quiet_bytes}

-- the bytes stand from `at` to `to`, and nothing else has changed
pub record Spelled (old new : List ℕ) (at to : ℕ) (bytes : List ℕ) : Type 0 where
  pub long : length new ≡ length old
  pub many : to ≡ at + length bytes
  pub front : take to new ≡ take at old ++ bytes
  pub back : drop to new ≡ drop to old

-- how long the sheet of tables is, quiet or not, that have so many bytes of rules and of faults, so many STARTs, tests and inputs
abbrev pub length_of : Bool → ℕ → ℕ → ℕ → ℕ → ℕ → ℕ
length_of quiet rules faults starts tests inputs = 5 + length (quiet_bytes quiet) + 5 * (rules / 4) + 5 * (faults / 4) + 2 * starts + tests + 2 * inputs
