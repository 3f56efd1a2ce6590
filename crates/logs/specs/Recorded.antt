-- What the writing of a log promises.
use Rattle.std.specs.Prelude.{ℕ, ◌+◌, ◌≤◌, ◌≡◌, List, ◌++◌, length, take}

-- of the bytes `whole`, which go into the log at `from`, all but `rest` stand before `to`, and there is room for those
pub record Written (old new : List ℕ) (from to : ℕ) (whole rest : List ℕ) : Type 0 where
  pub long : length new ≡ length old
  pub room : to + length rest ≤ length new
  pub many : to + length rest ≡ from + length whole
  pub is : take to new ++ rest ≡ take from old ++ whole

-- the first n bytes are those of the log
pub record Recorded (old new : List ℕ) (n : ℕ) (bytes : List ℕ) : Type 0 where
  pub long : length new ≡ length old
  pub inside : n ≤ length new
  pub is : take n new ≡ bytes
