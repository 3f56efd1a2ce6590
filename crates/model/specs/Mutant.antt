-- Mutants of a sheet (01: boards): one transition chosen at each suspect (01: open pair), and where it wakes.
use Rattle.std.specs.Prelude.{ℕ, zero, suc, ◌+◌, ◌<◌, cond, ◌&&◌, List, [], ◌∷◌, ◌++◌, map, eqb, ltb, get_or, replicate}
use Rattle.std.proofs.Math.Option.{Option, none, some}
use Rattle.sheet.specs.declared.Row.{Row}
use Rattle.lists.specs.Lists.{maybe, up_to, joined}
use Rattle.sheet.specs.Sheet.{Sheet, rows_at, rule_at, choices_at, is_open, wakings, waking_choices, waking_slots}
use Rattle.model.specs.Machine.{Move, Action, Pair, outputs_from, specified_from, DistinguishesFrom, ConformingFrom}

abbrev pub move_of : Row → Move
move_of r = record { output = r.output; target = r.target }

-- the specified transition
unfoldable pub rule : Sheet → ℕ → ℕ → Option Move
rule sh s x = maybe (rule_at sh.rules s x) none (λ r. some (move_of r))

-- the output 0, and the same state
abbrev pub stay : ℕ → Move
stay s = record { output = 0; target = s }

-- the transitions of a state and an input without a rule: all outputs and next states, ascending by output and then by next state; on a
-- quiet sheet (02) it stays
unfoldable pub unruled : Sheet → ℕ → List Move
unruled sh s =
    let all : List Move = joined (λ o. map (λ t. record { output = o; target = t }) (up_to sh.size.states)) (up_to sh.size.outputs) in
    cond sh.quiet (stay s ∷ []) all

-- the transitions of a state and an input, in 01's order of choices: the rule, then its faults
unfoldable pub transitions : Sheet → ℕ → ℕ → List Move
transitions sh s x = maybe (rule_at sh.rules s x) (unruled sh s) (λ r. move_of r ∷ map move_of (rows_at sh.faults s x))

-- a state and an input with two or more transitions (01: open pair)
pub record Suspect : Type 0 where
  pub state : ℕ
  pub input : ℕ

abbrev pub keep_open : Sheet → ℕ → ℕ → List Suspect
keep_open sh s x = cond (is_open sh s x) (record { state = s; input = x } ∷ []) []

-- ascending by state, then input
unfoldable pub suspects : Sheet → List Suspect
suspects sh = joined (λ s. joined (λ x. keep_open sh s x) (up_to sh.size.inputs)) (up_to sh.size.states)

-- how many choices each byte of a mutant has: first where it wakes, if there is a choice (02: START), then the suspects
unfoldable pub slots : Sheet → List ℕ
slots sh =
    replicate (waking_slots sh) (waking_choices sh) ++ map (λ (u : Suspect). choices_at sh u.state u.input) (suspects sh)

abbrev pub later : Option ℕ → Option ℕ
later none = none
later (some i) = some (suc i)

unfoldable pub site_in : List Suspect → ℕ → ℕ → Option ℕ
site_in [] s x = none
site_in (u ∷ us) s x =
    let rest = later (site_in us s x) in
    cond (eqb u.state s && eqb u.input x) (some zero) rest

-- the byte of a suspect, by its number among the suspects
abbrev pub slot_of : Sheet → Option ℕ → Option ℕ
slot_of sh found = maybe found none (λ i. some (waking_slots sh + i))

-- which byte of a mutant a state and an input use; none where there is one transition only
unfoldable pub site_of : Sheet → ℕ → ℕ → Option ℕ
site_of sh s x = slot_of sh (site_in (suspects sh) s x)

-- all lists of choices below the given numbers, in dictionary order
unfoldable pub choice_lists : List ℕ → List (List ℕ)
choice_lists [] = [] ∷ []
choice_lists (c ∷ cs) = let rest = choice_lists cs in joined (λ i. map (λ b. i ∷ b) rest) (up_to c)

unfoldable pub mutants : Sheet → List (List ℕ)
mutants sh = choice_lists (slots sh)

-- as long as the list of numbers, and each choice below its number
unfoldable pub InRange : List ℕ → List ℕ → Type 0
InRange [] [] = Unit {0}
InRange [] (i ∷ b) = ⊥
InRange (c ∷ cs) [] = ⊥
InRange (c ∷ cs) (i ∷ b) = (i < c) × InRange cs b

unfoldable pub IsMutant : Sheet → List ℕ → Type 0
IsMutant sh b = InRange (slots sh) b

abbrev pub idle : Move
idle = record { output = 0; target = 0 }

-- a step of the mutant b at a state and an input: its move is the transition that its byte names at a suspect, and that byte is
-- used; otherwise it is the only one (and nothing beyond the sheet's states and inputs, where no run gets)
unfoldable pub acts : Sheet → List ℕ → ℕ → ℕ → Action
acts sh b =
    let us = suspects sh in
    λ s x.
    let slot = slot_of sh (site_in us s x) in
    record {
      move =
          cond (ltb s sh.size.states && ltb x sh.size.inputs)
          (get_or (transitions sh s x) (maybe slot zero (λ i. get_or b i 0)) idle)
          idle;
      used = slot;
    }

-- its move alone
unfoldable pub step : Sheet → List ℕ → ℕ → ℕ → Move
step sh b = let act = acts sh b in λ s x. (act s x).move

-- which byte of a mutant says in which state it wakes, if there is a choice; every run uses it
unfoldable pub start_slot : Sheet → Option ℕ
start_slot sh = cond (ltb 1 (waking_choices sh)) (some zero) none

-- the state after a reset (01: fresh start): the waking state that its byte names, or the only one, 0
unfoldable pub initial : Sheet → List ℕ → ℕ
initial sh b = get_or (wakings sh) (maybe (start_slot sh) zero (λ i. get_or b i 0)) 0

-- the mutant's outputs (01: sounds)
unfoldable pub outputs : Sheet → List ℕ → List ℕ → List ℕ
outputs sh b xs = outputs_from (step sh b) (initial sh b) xs

-- the specified outputs: none where the sequence is not defined
unfoldable pub specified : Sheet → List ℕ → Option (List ℕ)
specified sh xs = specified_from (rule sh) 0 xs

-- the specification and the mutant b
abbrev pub against : Sheet → List ℕ → Pair
against sh b =
    record {
      states = sh.size.states;
      inputs = sh.size.inputs;
      start = initial sh b;
      rule = rule sh;
      move = step sh b;
    }

-- a defined sequence on which the outputs differ (01: departing sequence)
abbrev pub Distinguishes : Sheet → List ℕ → List ℕ → Type 0
Distinguishes sh b xs = DistinguishesFrom (against sh b) 0 (initial sh b) xs

-- the outputs equal the specified ones on every defined sequence (01: conforms; 000: quasi-equivalent)
abbrev pub Conforming : Sheet → List ℕ → Type 0
Conforming sh b = ConformingFrom (against sh b) 0 (initial sh b)
