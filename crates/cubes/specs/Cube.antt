-- Cubes: for each suspect which transitions are meant; what the functions promise of them.
use Rattle.std.specs.Prelude.{◌≡◌, Bool, true, ◌⊎◌, List, ℕ, ◌+◌, ◌*◌, ◌/◌, ◌%◌, ◌<◌, length, get_or}
use Rattle.model.specs.Machine.{Move, ConformingFrom}
use Rattle.cubes.specs.Sets.{Has}
use Rattle.block.specs.Layout.{pair, site_at, rule_output, rule_target, states_of, inputs_of, choices_of}
use Rattle.block.specs.Tabulated.{Wf, Ranged, choice_of, chosen, step_of, start_of, pair_of}
use Rattle.block.specs.Logged.{GivesOf}
use Rattle.cubes.specs.declared.goal.Goal.{Goal}
use Rattle.cubes.specs.declared.goal.Goal.TheVariants.{Any, Nonconforming}

-- the literal l means the transition: it is 2^32 - 1, or an output * 65536 + a set of next states that has it
unfoldable pub Means : ℕ → Move → Type 0
Means l v = (l ≡ 4294967295) ⊎ ((l / 65536 ≡ v.output) × Has (l % 65536) v.target)

abbrev pub MeansStep : ℕ → ℕ → ℕ → Type 0
MeansStep l o t = Means l (record { output = o; target = t })

-- the mutant b is in the cube: at each suspect, the waking state among them, its transition is meant
pub record In (m cube b : List ℕ) : Type 0 where
  pub at : (k : ℕ) → k < 257 → (site_at m k ≡ 255 → ⊥) → Means (get_or cube (site_at m k) 0) (choice_of m k (chosen m b k))

-- what a goal asks of a mutant besides the log
abbrev pub Meets : Goal → List ℕ → List ℕ → Type 0
Meets Any m b = Unit {0}
Meets Nonconforming m b = ConformingFrom (pair_of m b) 0 (start_of m b) → ⊥

-- the mutant b gives the log and meets the goal
unfoldable pub Sought : Goal → List ℕ → List ℕ → List ℕ → Type 0
Sought goal m log b = GivesOf m b log × Meets goal m b

-- b has all the choices that p settles (256: not settled)
abbrev pub Extends : List ℕ → List ℕ → Type 0
Extends b p = (j : ℕ) → (get_or p j 0 ≡ 256 → ⊥) → get_or b j 0 ≡ get_or p j 0

-- no mutant that has all the choices that p settles is sought
abbrev pub NoneIf : Goal → List ℕ → List ℕ → List ℕ → Bool → Type 0
NoneIf goal m log p r = r ≡ true → (b : List ℕ) → Ranged m b → Extends b p → Sought goal m log b → ⊥

-- no mutant in the cube is sought
pub record NoneIn (goal : Goal) (m log cube : List ℕ) : Type 0 where
  pub at : (b : List ℕ) → Ranged m b → In m cube b → Sought goal m log b → ⊥

-- the set has the start of every mutant in the cube
pub record StartsOk (m cube : List ℕ) (r : ℕ) : Type 0 where
  pub at : (b : List ℕ) → Ranged m b → In m cube b → Has r (start_of m b)

-- each of those mutants conforms
abbrev pub Conform : List ℕ → (List ℕ → Type 0) → Type 0
Conform m those = (b : List ℕ) → Ranged m b → those b → ConformingFrom (pair_of m b) 0 (start_of m b)

-- every mutant in the cube conforms
pub record AllConform (m cube : List ℕ) : Type 0 where
  pub at : Conform m (In m cube)

-- The facts of a block: by suspect i and output o, at i * 16 + o, a set that has the next states of its choices with that output;
-- by suspect i, at 512 + i, one that has its outputs. What stands from 544 on is the business of others.
pub record FreeOk (m facts : List ℕ) : Type 0 where
  pub few : (k c : ℕ) → k < 257 → (site_at m k ≡ 255 → ⊥) → c < choices_of m (site_at m k) → (choice_of m k c).output < 16
  pub going : (k c : ℕ) → k < 257 → (site_at m k ≡ 255 → ⊥) → c < choices_of m (site_at m k) → Has (get_or facts (site_at m k * 16 + (choice_of m k c).output) 0) (choice_of m k c).target
  pub sounding : (k c : ℕ) → k < 257 → (site_at m k ≡ 255 → ⊥) → c < choices_of m (site_at m k) → Has (get_or facts (512 + site_at m k) 0) (choice_of m k c).output

pub record Given (m facts : List ℕ) : Type 0 where
  pub wf : Wf m
  pub tables : FreeOk m facts

-- ---- literals
-- what l means with the output o leads into r, as far as the table has it
pub record GoingOk (facts : List ℕ) (l i o r : ℕ) : Type 0 where
  pub at : (v : Move) → Means l v → v.output ≡ o → Has (get_or facts (i * 16 + o) 0) v.target → Has r v.target

-- what l means has the output o
pub record SoundsOk (facts : List ℕ) (l i o : ℕ) : Type 0 where
  pub at : (v : Move) → Means l v → Has (get_or facts (512 + i) 0) v.output → v.output ≡ o

-- what r means a and b mean
pub record BothOk (a b r : ℕ) : Type 0 where
  pub left : (v : Move) → Means r v → Means a v
  pub right : (v : Move) → Means r v → Means b v

-- ---- pairs of states
-- the transition of a pair that is no suspect has the output o, and leads into the row
pub record LoneOk (m : List ℕ) (k o row : ℕ) : Type 0 where
  pub out : (choice_of m k 0).output ≡ o
  pub next : Has row (choice_of m k 0).target

-- what l means has the output o, and leads into the row
pub record FreedOk (facts : List ℕ) (l i o row : ℕ) : Type 0 where
  pub out : (v : Move) → Means l v → Has (get_or facts (512 + i) 0) v.output → v.output ≡ o
  pub next : (v : Move) → Means l v → v.output ≡ o → Has (get_or facts (i * 16 + o) 0) v.target → Has row v.target

-- on a defined input each of those mutants gives the specified output, and the pair of next states is in the set
pub record CellOk (m : List ℕ) (those : List ℕ → Type 0) (pairs : List ℕ) (s q x : ℕ) : Type 0 where
  pub out : (rule_target m (pair s x) ≡ 255 → ⊥) → (b : List ℕ) → Ranged m b → those b → (step_of m b q x).output ≡ rule_output m (pair s x)
  pub next : (rule_target m (pair s x) ≡ 255 → ⊥) → (b : List ℕ) → Ranged m b → those b → Has (get_or pairs (rule_target m (pair s x)) 0) (step_of m b q x).target

pub record RowOk (m : List ℕ) (those : List ℕ → Type 0) (pairs : List ℕ) (s q : ℕ) : Type 0 where
  pub at : Has (get_or pairs s 0) q → (x : ℕ) → x < inputs_of m → CellOk m those pairs s q x

pub record LineOk (m : List ℕ) (those : List ℕ → Type 0) (pairs : List ℕ) (s : ℕ) : Type 0 where
  pub at : (q : ℕ) → q < states_of m → RowOk m those pairs s q

-- ---- the join
-- the mutant b is in the cube, but perhaps at the suspect i
pub record InBut (m cube b : List ℕ) (i : ℕ) : Type 0 where
  pub at : (k : ℕ) → k < 257 → (site_at m k ≡ 255 → ⊥) → (site_at m k ≡ i → ⊥) → Means (get_or cube (site_at m k) 0) (choice_of m k (chosen m b k))

-- no mutant in `all`, the suspect of the pair k aside, whose transition there is in `done` (by output a set of next states) is sought
pub record Joining (goal : Goal) (m log all done : List ℕ) (k : ℕ) : Type 0 where
  pub at : (b : List ℕ) → Ranged m b → InBut m all b (site_at m k) → Has (get_or done (choice_of m k (chosen m b k)).output 0) (choice_of m k (chosen m b k)).target → Sought goal m log b → ⊥

-- `done` has every choice of the suspect of the pair k
pub record Covers (m done : List ℕ) (k : ℕ) : Type 0 where
  pub at : (c : ℕ) → c < choices_of m (site_at m k) → Has (get_or done (choice_of m k c).output 0) (choice_of m k c).target

-- `wider` has what `done` has and what the literal l means, nothing else
pub record Adds (done wider : List ℕ) (l : ℕ) : Type 0 where
  pub at : (v : Move) → Has (get_or wider v.output 0) v.target → Has (get_or done v.output 0) v.target ⊎ Means l v

-- what r means both cubes mean
pub record MeetsAll (all cube r : List ℕ) : Type 0 where
  pub long : length r ≡ 32
  pub at : (j : ℕ) → j < 32 → BothOk (get_or all j 0) (get_or cube j 0) (get_or r j 0)

-- `wider` has what `done` has and what the literal l means
pub record AddsOk (done wider : List ℕ) (l : ℕ) : Type 0 where
  pub long : length wider ≡ 16
  pub adds : Adds done wider l
  pub keeps : (v : Move) → Has (get_or done v.output 0) v.target → Has (get_or wider v.output 0) v.target
  pub here : (v : Move) → v.output < 16 → (l ≡ 4294967295 → ⊥) → Means l v → Has (get_or wider v.output 0) v.target
