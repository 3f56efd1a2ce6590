-- Sets of states or outputs as the bits of a number.
use Rattle.std.specs.Prelude.{◌≡◌, ◌⊎◌, List, ℕ, ◌/◌, ◌%◌, ◌^◌, ◌<◌, length, get_or}

-- i is a member of the set: bit i of the number is 1
unfoldable pub Has : ℕ → ℕ → Type 0
Has set i = set / 2 ^ i % 2 ≡ 1

-- i is the least member, if it is one
abbrev pub NoneBelow : ℕ → ℕ → Type 0
NoneBelow set i = (j : ℕ) → j < i → Has set j → ⊥

-- every member of the one is a member of the other
abbrev pub HasAll : ℕ → ℕ → Type 0
HasAll a b = (j : ℕ) → Has a j → Has b j

-- the members of either, nothing else
pub record Joined (a b r : ℕ) : Type 0 where
  pub left : HasAll a r
  pub right : HasAll b r
  pub only : (j : ℕ) → Has r j → Has a j ⊎ Has b j

-- the members of both, nothing else
pub record Shared (a b r : ℕ) : Type 0 where
  pub both : (j : ℕ) → Has a j → Has b j → Has r j
  pub left : HasAll r a
  pub right : HasAll r b

-- the members of a that b has not, nothing else
pub record Without (a b r : ℕ) : Type 0 where
  pub left : HasAll r a
  pub apart : (j : ℕ) → Has r j → Has b j → ⊥
  pub all : (j : ℕ) → Has a j → (Has b j → ⊥) → Has r j

-- the members of a set but the least, nothing else
pub record Later (set r : ℕ) : Type 0 where
  pub left : HasAll r set
  pub apart : (j : ℕ) → ((i : ℕ) → i < j → Has set i → ⊥) → Has r j → ⊥
  pub all : (i j : ℕ) → i < j → Has set i → Has set j → Has r j

-- of a table of sets: none has lost a member
pub record Grows (old new : List ℕ) : Type 0 where
  pub long : length new ≡ length old
  pub more : (j t : ℕ) → Has (get_or old j 0) t → Has (get_or new j 0) t

-- and s is now in the one at a place
pub record Put (old new : List ℕ) (at s : ℕ) : Type 0 where
  pub grows : Grows old new
  pub here : Has (get_or new at 0) s
