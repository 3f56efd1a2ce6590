-- Which slots a mutant uses (02: which open pairs a test touches), as a set in one number: bit i for slot i.
use Rattle.std.specs.Prelude.{ℕ, ◌/◌, ◌%◌, ◌^◌, ◌≡◌, Bool, ◌⊎◌, List, [], ◌∷◌, eqb}
use Rattle.std.proofs.Math.Option.{Option, none, some}
use Rattle.std.specs.Int.Bits.{bit_or}
use Rattle.std.specs.Int.Count.{ones}
use Rattle.sheet.specs.Sheet.{Sheet}
use Rattle.model.specs.Machine.{Action}
use Rattle.model.specs.Mutant.{acts, initial, start_slot}

-- slot i is in the set
unfoldable pub has : ℕ → ℕ → Bool
has set i = eqb (set / 2 ^ i % 2) 1

-- the set with one slot more, if there is one
abbrev pub mark : ℕ → Option ℕ → ℕ
mark set none = set
mark set (some i) = bit_or set (2 ^ i)

-- the set with the slots that the steps from the state s on use
unfoldable pub mark_from : (ℕ → ℕ → Action) → ℕ → ℕ → List ℕ → ℕ
mark_from act set s [] = set
mark_from act set s (x ∷ xs) = mark_from act (mark set (act s x).used) (act s x).move.target xs

-- and with those of several sequences, each after a reset to `start`
unfoldable pub mark_all : (ℕ → ℕ → Action) → ℕ → ℕ → List (List ℕ) → ℕ
mark_all act start set [] = set
mark_all act start set (t ∷ ts) = mark_all act start (mark_from act set start t) ts

-- how many slots, and which
pub record Usage : Type 0 where
  pub number : ℕ
  pub set : ℕ

-- the number is the count of ones
abbrev pub counted : ℕ → Usage
counted set = record { number = ones set; set = set }

-- the slots that the mutant b uses on sequences of inputs, each after a reset
unfoldable pub used_on : Sheet → List ℕ → List (List ℕ) → Usage
used_on sh b ts = counted (mark_all (acts sh b) (initial sh b) (mark 0 (start_slot sh)) ts)

-- the same in words: a step from the state s on uses slot i
unfoldable pub UsesFrom : (ℕ → ℕ → Action) → ℕ → List ℕ → ℕ → Type 0
UsesFrom act s [] i = ⊥
UsesFrom act s (x ∷ xs) i = ((act s x).used ≡ some i) ⊎ UsesFrom act (act s x).move.target xs i

-- a step of one of the sequences
unfoldable pub UsesIn : (ℕ → ℕ → Action) → ℕ → List (List ℕ) → ℕ → Type 0
UsesIn act start [] i = ⊥
UsesIn act start (t ∷ ts) i = UsesFrom act start t i ⊎ UsesIn act start ts i

-- a reset or a step of the mutant b
unfoldable pub Uses : Sheet → List ℕ → List (List ℕ) → ℕ → Type 0
Uses sh b ts i = (start_slot sh ≡ some i) ⊎ UsesIn (acts sh b) (initial sh b) ts i
