-- The slots by a table of choices: that of the waking state, if there is one, and those of the suspects.
use Rattle.std.specs.Prelude.{ℕ, zero, suc, ◌/◌, ◌%◌, ◌<◌, ◌≡◌, Bool, cond, ◌&&◌, List, [], ◌∷◌, ◌++◌, ltb, length, get_or, replicate}
use Rattle.block.specs.declared.sites.Sites.{Sites}
use Rattle.lists.specs.Lists.{overlay}

-- of n states and k inputs: the pair at an index of the table has two choices or more
unfoldable pub open_at : ℕ → ℕ → List ℕ → ℕ → Bool
open_at n k choices i = (ltb (i / 16) n && ltb (i % 16) k) && ltb 1 (get_or choices i 0)

-- of w waking states: their number, if there is a choice
abbrev pub waking_first : ℕ → List ℕ
waking_first w = replicate (cond (ltb 1 w) 1 0) w

-- after the first ones the numbers of choices of the open pairs before an index
unfoldable pub open_choices : List ℕ → ℕ → ℕ → List ℕ → ℕ → List ℕ
open_choices first n k choices zero = first
open_choices first n k choices (suc i) = open_choices first n k choices i ++ cond (open_at n k choices i) (get_or choices i 0 ∷ []) []

pub record Numbered (first : List ℕ) (n k : ℕ) (choices : List ℕ) (r : Sites) : Type 0 where
  pub site : (i : ℕ) → i < 256 → get_or r.site i 0 ≡ cond (open_at n k choices i) (length (open_choices first n k choices i)) 255
  pub slots : r.slots ≡ overlay (open_choices first n k choices 256) (replicate 32 1)
  pub count : r.count ≡ length (open_choices first n k choices 256)
