-- The suspect that is met is not settled.
use Rattle.std.specs.Prelude.{◌≡◌, Option as Maybe, Some, None}
use Rattle.lists.specs.Proving.{arith, ℕ, List, length}
use Rattle.leaves.specs.Members.{Exact}
use Rattle.leaves.specs.Noted.{Changed}
use Rattle.leaves.specs.laws.MembersLaw.{exact-free}
use Rattle.leaves.specs.laws.NotedLaw.{changed-none}
use Rattle.pairs.specs.Meeting.{Free, Meets}

pub meets-free : {p cube notes : List ℕ} {settled : ℕ} (r : Maybe ℕ) → length cube ≡ 32 → Exact 32 p settled cube → Free cube r → Meets settled notes notes r
meets-free None l e f = record { met = tt; changed = changed-none }
meets-free (Some i) l e f = record { met = (f.0, exact-free i e f.0 (omega (arith, f.0, l)) f.1); changed = changed-none }

pub meets-none : {old new : List ℕ} {settled : ℕ} → Changed 4 40 old new → Meets settled old new None
meets-none c = record { met = tt; changed = c }
