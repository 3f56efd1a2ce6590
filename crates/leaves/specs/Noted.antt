-- Notes that steer a search: which of them a function reads, and which it leaves as they are.
use Rattle.std.specs.Prelude.{◌≡◌, ℕ, ◌+◌, ◌*◌, ◌<◌, ◌≤◌, List, length, ◌≢◌, slice_index, slice_index_or}

-- no note but those from one place up to another, that one left out, has changed
pub record Changed (from to : ℕ) (old new : List ℕ) : Type 0 where
  pub long : length new ≡ length old
  pub below : (k : ℕ) → k < from → slice_index new k ≡ slice_index old k
  pub above : (k : ℕ) → to ≤ k → slice_index new k ≡ slice_index old k

-- how many nodes were looked at
abbrev pub nodes_of : List ℕ → ℕ
nodes_of notes = slice_index notes 1 * 65536 + slice_index notes 0

-- two choices of a slot differ, neither of them 256
abbrev pub Clash : ℕ → ℕ → Type 0
Clash c d = (c ≢ 256) × (d ≢ 256) × (c ≢ d)

-- a witness is kept that can have the choices of the prefix
pub record Witnessed (notes prefix : List ℕ) : Type 0 where
  pub kept : slice_index_or notes 4 0 ≡ 0 → ⊥
  pub agrees : (j : ℕ) → j < 32 → Clash (slice_index notes (8 + j)) (slice_index prefix j) → ⊥

-- the choices are kept as a witness, where there is room for them; nothing else has changed
pub record Keeps (choices old new : List ℕ) : Type 0 where
  pub changed : Changed 4 40 old new
  pub between : (k : ℕ) → 4 < k → k < 8 → slice_index new k ≡ slice_index old k
  pub kept : 4 < length old → slice_index new 4 ≡ 1
  pub here : (j : ℕ) → j < 32 → 8 + j < length old → slice_index new (8 + j) ≡ slice_index choices j
