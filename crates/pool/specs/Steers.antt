-- What the steps of a sweep change of what steers it.
use Rattle.std.specs.Prelude.{Option as Maybe, None}
use Rattle.std.specs.Prelude.{◌≡◌, ◌⊎◌, ℕ, ◌+◌, ◌<◌, ltb, cond, List, length, replicate, slice_index_or, false}
use Rattle.pool.specs.declared.Steering.{Steering}

-- what a sweep begins with
abbrev pub begun : Steering
begun = record { effort = 128; floor = 0; conformed = false; survivors = replicate 8 None; next = 0 }

-- something else may be spent
abbrev pub with_effort : Steering → ℕ → Steering
with_effort s n = record { effort = n; floor = s.floor; conformed = s.conformed; survivors = s.survivors; next = s.next }

-- how much may be spent after n more were earned
abbrev pub earned : ℕ → ℕ → ℕ
earned effort n = cond (ltb effort 32768) (effort + n) effort

-- the same survivors
pub record Remembers (old new : Steering) : Type 0 where
  pub survivors : new.survivors ≡ old.survivors
  pub next : new.next ≡ old.next

-- some survivors may be forgotten, and no other is there
pub record Forgets (old new : Steering) : Type 0 where
  pub long : length new.survivors ≡ length old.survivors
  pub each : (i : ℕ) → i < 8 → (slice_index_or new.survivors i None ≡ slice_index_or old.survivors i None) ⊎ (slice_index_or new.survivors i None ≡ None)
  pub floor : new.floor ≡ old.floor
  pub conformed : new.conformed ≡ old.conformed
  pub next : new.next ≡ old.next
