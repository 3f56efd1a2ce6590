-- What noting the tests of a log leaves as it is.
use Rattle.std.specs.Prelude.{◌≡◌, List, ℕ, ◌<◌, length, get_or}

-- the facts of a block, and which states can be exchanged
pub record FactsKept (old new : List ℕ) : Type 0 where
  pub long : length new ≡ 1088
  pub same : (k : ℕ) → k < 560 → get_or new k 0 ≡ get_or old k 0
