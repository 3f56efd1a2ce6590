-- Mutants that have the choices settled at some suspects, along a log: what the steps of the attempt promise each other.
use Rattle.std.specs.Prelude.{◌≡◌, List, ℕ, ◌/◌, ◌%◌, ◌<◌, ◌≤◌, length, get_or, drop, Option as Maybe, IfSome}
use Rattle.model.specs.Log.{GivesFrom}
use Rattle.block.specs.Layout.{pair, waking, states_of, inputs_of, choices_of}
use Rattle.block.specs.Tabulated.{Ranged, choice_of, chosen, step_of, start_of}
use Rattle.block.specs.Logged.{observations, GivesOf}
use Rattle.block.specs.declared.layout.Step.{Step}
use Rattle.cubes.specs.Sets.{Has, HasAll}
use Rattle.cubes.specs.Cube.{Sought}
use Rattle.cubes.specs.declared.goal.Goal.{Goal}
use Rattle.walks.specs.declared.walk.Place.{Place}
use Rattle.walks.specs.declared.walk.Halt.{Halt}
use Rattle.walks.specs.declared.walk.Halt.TheVariants as halt

-- b has the choices that p settles at the suspects of the set (256: not settled)
pub record Agrees (p : List ℕ) (used : ℕ) (b : List ℕ) : Type 0 where
  pub at : (j : ℕ) → Has used j → (get_or p j 0 ≡ 256 → ⊥) → get_or b j 0 ≡ get_or p j 0

-- no such mutant is sought
pub record NoneBy (goal : Goal) (m log p : List ℕ) (used : ℕ) : Type 0 where
  pub at : (b : List ℕ) → Ranged m b → Agrees p used b → Sought goal m log b → ⊥

-- the step is that of every such mutant at the pair k
pub record Settled (m p : List ℕ) (used k : ℕ) (step : Step) : Type 0 where
  pub output : (b : List ℕ) → Ranged m b → Agrees p used b → step.output ≡ (choice_of m k (chosen m b k)).output
  pub target : (b : List ℕ) → Ranged m b → Agrees p used b → step.target ≡ (choice_of m k (chosen m b k)).target

-- c is the choice settled at the suspect i, 0 where there is none
pub record ChoiceIs (p : List ℕ) (i c : ℕ) : Type 0 where
  pub none : i ≡ 255 → c ≡ 0
  pub some : (i ≡ 255 → ⊥) → c ≡ get_or p i 0
  pub settled : c ≡ 256 → ⊥

-- the set has what was used before, and the suspect i, if there is one
pub record UsedWith (before i used : ℕ) : Type 0 where
  pub more : HasAll before used
  pub has : (i ≡ 255 → ⊥) → i < 32 → Has used i

-- k is the pair of the observation v in a state
pub record PairAt (m : List ℕ) (state v k : ℕ) : Type 0 where
  pub low : k < 257
  pub few : v ≤ 256
  pub reset : v ≡ 256 → k ≡ waking
  pub seen : (v ≡ 256 → ⊥) → (v / 16 < inputs_of m) × (k ≡ pair (state % 16) (v / 16 % 16))

-- the mutant b is in the state q and gives what is left of a log
pub record Here (m b : List ℕ) (q : ℕ) (left : List ℕ) : Type 0 where
  pub low : q < states_of m
  pub goes : GivesFrom (step_of m b) (start_of m b) q (observations left)

-- nothing is seen before the first reset: a mutant gives the log from any state
pub record Begins (log : List ℕ) : Type 0 where
  pub at : 0 < length log → get_or log 0 0 ≡ 16

-- a mutant that has the choices settled at the suspects used and gives the log is at the place after the observations before it
pub record Stands (m log p : List ℕ) (place : Place) : Type 0 where
  pub at : (b : List ℕ) → Ranged m b → Agrees p place.used b → GivesOf m b log → Here m b place.state (drop place.at log)

abbrev pub Halts : Goal → List ℕ → List ℕ → List ℕ → Halt → Type 0
Halts goal m log p (halt.Fails used) = NoneBy goal m log p used
Halts goal m log p (halt.Waits i place) = Stands m log p place
Halts goal m log p (halt.Ends place) = Stands m log p place
Halts goal m log p halt.Lost = Unit {0}

-- it does not end but from a reset at a place of the log
abbrev pub Starts : List ℕ → ℕ → Halt → Type 0
Starts log at (halt.Fails used) = Unit {0}
Starts log at (halt.Waits i place) = Unit {0}
Starts log at (halt.Ends place) = (at < length log) × (get_or log at 0 ≡ 16)
Starts log at halt.Lost = Unit {0}

-- no mutant is sought that has the choices settled at the suspects told, if any are
abbrev pub ToldOk : Goal → List ℕ → List ℕ → List ℕ → Maybe ℕ → Type 0
ToldOk goal m log p r = IfSome r (λ used. NoneBy goal m log p used)

-- the suspect is not settled, n are all the choices it has, and one more may be settled
pub record SplitOk (m p : List ℕ) (i left n : ℕ) : Type 0 where
  pub low : i < 32
  pub free : get_or p i 0 ≡ 256
  pub count : n ≡ choices_of m i
  pub some : 0 < left
