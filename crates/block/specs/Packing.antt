-- Filling the block.
use Rattle.std.specs.Prelude.{◌≡◌, List, ◌⊎◌, ℕ, ◌+◌, ◌<◌, ◌≤◌, length, get_or}

-- of the `size` cells from `base` the first n are as they should be, and no other cell is changed
pub record Filled (old new : List ℕ) (base size n : ℕ) (Right : ℕ → ℕ → Type 0) : Type 0 where
  pub low : n ≤ size
  pub long : length new ≡ 1620
  pub same : (k : ℕ) → k < n → Right k (get_or new (base + k) 0)
  pub others : (j : ℕ) → (j < base) ⊎ (base + size ≤ j) → get_or new j 0 ≡ get_or old j 0

abbrev pub Copied : List ℕ → List ℕ → ℕ → List ℕ → ℕ → Type 0
Copied old new base from n = Filled old new base (length from) n (λ k v. v ≡ get_or from k 0)

abbrev pub FirstCopied : List ℕ → List ℕ → List ℕ → ℕ → Type 0
FirstCopied old new first n = Filled old new 512 256 n (λ k v. get_or first k 0 < 256 → v ≡ get_or first k 0)

abbrev pub ChoicesCopied : List ℕ → List ℕ → List ℕ → ℕ → Type 0
ChoicesCopied old new choices n = Filled old new 1280 32 n (λ i v. 1 ≤ get_or choices i 0 → get_or choices i 0 ≤ 256 → v + 1 ≡ get_or choices i 0)
