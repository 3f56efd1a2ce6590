-- Machines: a specification is partial and starts at state 0; a machine to hold against it is total and has its own start.
use Rattle.std.specs.Prelude.{ℕ, ◌≡◌, List, [], ◌∷◌}
use Rattle.std.proofs.Math.Option.{Option, none, some}
use Rattle.lists.specs.Lists.{maybe}

-- what happens at a state and an input: an output, and the next state
pub record Move : Type 0 where
  pub output : ℕ
  pub target : ℕ

-- a step of a mutant: its move, and which byte of the mutant it used, if any
pub record Action : Type 0 where
  pub move : Move
  pub used : Option ℕ

-- a specification and a machine: `rule s x` is the specified move, if there is one; `move s x` is the machine's
pub record Pair : Type 0 where
  pub states : ℕ
  pub inputs : ℕ
  pub start : ℕ
  pub rule : ℕ → ℕ → Option Move
  pub move : ℕ → ℕ → Move

-- the machine's outputs from a state
unfoldable pub outputs_from : (ℕ → ℕ → Move) → ℕ → List ℕ → List ℕ
outputs_from move s [] = []
outputs_from move s (x ∷ xs) = (move s x).output ∷ outputs_from move (move s x).target xs

-- one output before the others, if those are specified
abbrev pub prepend : ℕ → Option (List ℕ) → Option (List ℕ)
prepend o none = none
prepend o (some os) = some (o ∷ os)

-- the specified outputs from a state: none if the sequence is not defined
unfoldable pub specified_from : (ℕ → ℕ → Option Move) → ℕ → List ℕ → Option (List ℕ)
specified_from rule s [] = some []
specified_from rule s (x ∷ xs) = maybe (rule s x) none (λ r. prepend r.output (specified_from rule r.target xs))

-- from the specification's state p and the machine's state q the defined sequence xs shows other outputs
unfoldable pub DistinguishesFrom : Pair → ℕ → ℕ → List ℕ → Type 0
DistinguishesFrom m p q xs =
    (os : List ℕ) × (specified_from m.rule p xs ≡ some os) × (outputs_from m.move q xs ≡ os → ⊥)

-- on every defined sequence, of any length, the outputs are the specified ones
unfoldable pub ConformingFrom : Pair → ℕ → ℕ → Type 0
ConformingFrom m p q =
    (xs os : List ℕ) → specified_from m.rule p xs ≡ some os → outputs_from m.move q xs ≡ os
