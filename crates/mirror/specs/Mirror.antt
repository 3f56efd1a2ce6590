-- Exchanging two states that the mutants do not tell apart makes mutants of mutants, with the same outputs.
use Rattle.std.specs.Prelude.{◌≡◌, cond, ◌⊎◌, List, ℕ, ◌+◌, ◌<◌, ◌≤◌, length, get_or, eqb}
use Rattle.model.specs.Machine.{Move}
use Rattle.block.specs.Layout.{pair, states_of, inputs_of}
use Rattle.block.specs.Tabulated.{Ranged, choices_at, choice_of, start_of}
use Rattle.cubes.specs.Sets.{Has}

-- a and b exchanged
unfoldable pub other : ℕ → ℕ → ℕ → ℕ
other a b s = cond (eqb s a) b (cond (eqb s b) a s)

-- the transition with its next state exchanged
abbrev pub turned : ℕ → ℕ → Move → Move
turned a b v = record { output = v.output; target = other a b v.target }

-- every member of the set has the property
pub record Each (P : ℕ → Type 0) (set : ℕ) : Type 0 where
  pub at : (t : ℕ) → Has set t → P t

-- every number below n has the property
pub record Below (P : ℕ → Type 0) (n : ℕ) : Type 0 where
  pub at : (j : ℕ) → j < n → P j

-- the transition is a choice at the pair j
pub record Offers (m : List ℕ) (j : ℕ) (v : Move) : Type 0 where
  pub choice : ℕ
  pub low : choice < choices_at m j
  pub is : choice_of m j choice ≡ v

abbrev pub OffersStep : List ℕ → ℕ → ℕ → ℕ → Type 0
OffersStep m j o t = Offers m j (record { output = o; target = t })

-- choice c at the pair k, exchanged, is a choice at the pair j
abbrev pub Answered : List ℕ → ℕ → ℕ → ℕ → ℕ → ℕ → Type 0
Answered m a b k j c = Offers m j (turned a b (choice_of m k c))

-- and so is every choice at the pair k
abbrev pub Exchanges : List ℕ → ℕ → ℕ → ℕ → ℕ → Type 0
Exchanges m a b k j = Below (λ c. Answered m a b k j c) (choices_at m k)

-- every pair of the state s and its image
abbrev pub RowExchanges : List ℕ → ℕ → ℕ → ℕ → Type 0
RowExchanges m a b s = Below (λ x. Exchanges m a b (pair s x) (pair (other a b s) x)) (inputs_of m)

-- no mutant starts in s, and it is not where a mutant goes beyond its states and inputs
pub record Movable (m : List ℕ) (s : ℕ) : Type 0 where
  pub zero : s ≡ 0 → ⊥
  pub start : (c : List ℕ) → Ranged m c → start_of m c ≡ s → ⊥

-- the set has all states that are not movable
pub record FixedOk (m : List ℕ) (set : ℕ) : Type 0 where
  pub zero : Has set 0
  pub start : (c : List ℕ) → Ranged m c → Has set (start_of m c)

-- two states that the mutants do not tell apart
pub record Exchangeable (m : List ℕ) (a b : ℕ) : Type 0 where
  pub a-low : a < states_of m
  pub b-low : b < states_of m
  pub a-free : Movable m a
  pub b-free : Movable m b
  pub rows : Below (λ s. RowExchanges m a b s) (states_of m)

-- by state a below n, at 544 + a of the facts, a set of states that can be exchanged with it
pub record Partnered (m facts : List ℕ) (n : ℕ) : Type 0 where
  pub at : (a : ℕ) → a < n → Each (λ b. Exchangeable m a b) (get_or facts (544 + a) 0)

-- the same of every state
abbrev pub SwapsOk : List ℕ → List ℕ → Type 0
SwapsOk m facts = Partnered m facts 16

-- these are filled in, and nothing else is changed
pub record Exchanged (m old new : List ℕ) : Type 0 where
  pub long : length new ≡ 1088
  pub swaps : SwapsOk m new
  pub others : (j : ℕ) → (j < 544) ⊎ (560 ≤ j) → get_or new j 0 ≡ get_or old j 0
