-- For callers: what `exchange_all` leaves, and how `reflect` fits into a join.
use Rattle.std.specs.Prelude.{◌+◌, ◌<◌, ◌≡◌}
use Rattle.lists.specs.Proving.{arith, ℕ, List, get_or}
use Rattle.cubes.specs.Cube.{MeetsAll}
use Rattle.mirror.specs.Mirror.{SwapsOk}
use Rattle.mirror.specs.Reflect.{Under}

-- what is done to other facts leaves them
pub swaps-kept : {m old new : List ℕ} → ((j : ℕ) → j < 560 → get_or new j 0 ≡ get_or old j 0) → SwapsOk m old → SwapsOk m new
swaps-kept same s = record { at = λ a l. rw (same (544 + a) (omega arith)) (s.at a l) }

pub under-meets : {all cube more : List ℕ} {i : ℕ} → MeetsAll all cube more → Under more cube i
under-meets me = record { at = λ j l d v h. (me.at j l).right v h }
