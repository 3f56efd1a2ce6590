-- Which entries of the store may agree with a settled part: a row of 32 notes for each number of settled suspects.
use Rattle.std.specs.Prelude.{◌≡◌, List, ℕ, ◌+◌, ◌*◌, ◌<◌, length, get_or}
use Rattle.leaves.specs.Noted.{Changed}

-- each of the first n notes of a row, where there is room for it, admits 16 entries; no note outside the row has changed
pub record Admitted (n row : ℕ) (old new : List ℕ) : Type 0 where
  pub changed : Changed (8768 + row * 32) (8800 + row * 32) old new
  pub all : (w : ℕ) → w < n → 8768 + row * 32 + w < length old → get_or new (8768 + row * 32 + w) 0 ≡ 65535
