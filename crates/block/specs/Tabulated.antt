-- The specification and the mutants that a block tabulates.
use Rattle.std.specs.Prelude.{◌≡◌, cond, ◌&&◌, List, ℕ, ◌+◌, ◌-◌, ◌/◌, ◌%◌, ◌<◌, ◌≤◌, length, get_or, eqb, ltb}
use Rattle.std.proofs.Math.Option.{Option, none, some}
use Rattle.model.specs.Machine.{Move, Pair}
use Rattle.model.specs.Mutant.{idle}
use Rattle.block.specs.Layout.{pair, waking, rule_output, rule_target, site_at, first_fault, mutated, diverted, choices_of, states_of, inputs_of, wake_at}
use Rattle.block.specs.declared.layout.Step.{Step}

-- how many choices a pair has: one where it is no suspect
unfoldable pub choices_at : List ℕ → ℕ → ℕ
choices_at m k = cond (eqb (site_at m k) 255) 1 (choices_of m (site_at m k))

-- the output 0 and the same state (0 where the pair is none of the sheet's)
abbrev pub stay_at : List ℕ → ℕ → Move
stay_at m k = record { output = 0; target = cond (ltb (k / 16) (states_of m)) (k / 16) 0 }

-- the transition of choice c at the pair k: the rule, then its faults; without a rule all outputs and next states in order, or, where it is no
-- suspect, it stays; one that leads into the waking state has no output of its own
unfoldable pub choice_of : List ℕ → ℕ → ℕ → Move
choice_of m k c =
    cond (eqb k waking)
    (record { output = 0; target = wake_at m c })
    (cond (eqb (rule_target m k) 255)
    (cond (eqb (site_at m k) 255) (stay_at m k) (record { output = c / states_of m; target = c % states_of m }))
    (cond (eqb c 0)
    (record { output = rule_output m k; target = rule_target m k })
    (record { output = mutated m (first_fault m k + c - 1); target = diverted m (first_fault m k + c - 1) })))

-- the mutant's choice at the pair k
unfoldable pub chosen : List ℕ → List ℕ → ℕ → ℕ
chosen m b k = cond (eqb (site_at m k) 255) 0 (get_or b (site_at m k) 0)

-- the specified move
unfoldable pub rule_of : List ℕ → ℕ → ℕ → Option Move
rule_of m s x =
    cond (ltb s (states_of m) && ltb x (inputs_of m))
    (cond (eqb (rule_target m (pair s x)) 255) none (some (record { output = rule_output m (pair s x); target = rule_target m (pair s x) })))
    none

-- the move of the mutant b
unfoldable pub step_of : List ℕ → List ℕ → ℕ → ℕ → Move
step_of m b s x = cond (ltb s (states_of m) && ltb x (inputs_of m)) (choice_of m (pair s x) (chosen m b (pair s x))) idle

-- the state of the mutant b after a reset
unfoldable pub start_of : List ℕ → List ℕ → ℕ
start_of m b = (choice_of m waking (chosen m b waking)).target

-- the specification and the mutant b
abbrev pub pair_of : List ℕ → List ℕ → Pair
pair_of m b = record { states = states_of m; inputs = inputs_of m; start = start_of m b; rule = rule_of m; move = step_of m b }

-- every choice of b is in range (a number that is no suspect's has one choice)
pub record Ranged (m b : List ℕ) : Type 0 where
  pub short : length b ≤ 32
  pub at : (i : ℕ) → i < 32 → get_or b i 0 < choices_of m i

-- what the functions ask of the block
pub record Wf (m : List ℕ) : Type 0 where
  pub some-states : 1 ≤ states_of m
  pub few-states : states_of m ≤ 16
  pub few-inputs : inputs_of m ≤ 16
  pub rules : (k : ℕ) → k < 256 → (rule_target m k ≡ 255 → ⊥) → rule_target m k < states_of m
  pub targets : (f : ℕ) → f < 256 → diverted m f < states_of m
  pub faults : (k c : ℕ) → k < 256 → (rule_target m k ≡ 255 → ⊥) → c < choices_at m k → first_fault m k + c ≤ 256
  pub sites : (k : ℕ) → k < 257 → (site_at m k ≡ 255 → ⊥) → site_at m k < 32
  pub once : (k j : ℕ) → k < 257 → j < 257 → (site_at m k ≡ 255 → ⊥) → site_at m j ≡ site_at m k → j ≡ k
  pub choices : (i : ℕ) → i < 32 → choices_of m i ≤ 256
  pub inside : (k : ℕ) → k < 256 → (site_at m k ≡ 255 → ⊥) → (k / 16 < states_of m) × (k % 16 < inputs_of m)
  pub wakings : (c : ℕ) → c < choices_at m waking → wake_at m c < states_of m
  pub few-wakings : choices_at m waking ≤ 16

-- the transition of choice c at the pair k
pub record StepIs (m : List ℕ) (k c : ℕ) (r : Step) : Type 0 where
  pub output : Wf m → c < choices_at m k → r.output ≡ (choice_of m k c).output
  pub target : Wf m → c < choices_at m k → r.target ≡ (choice_of m k c).target
