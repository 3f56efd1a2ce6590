-- The search for the first mutant that gives a log and meets a goal, choice by choice in dictionary order.
use Rattle.std.specs.Prelude.{Option as Maybe, Some, None, Result as Answer, Ok, Err}
use Rattle.std.specs.Prelude.{◌≡◌, ℕ, ◌<◌, ◌≤◌, Bool, true, false, List, [], length, take, replicate, slice_index, slice_index_or}
use Rattle.std.proofs.Math.Option.{Option, none}
use Rattle.lists.specs.Lists.{Before}
use Rattle.sheet.specs.Sheet.{Sheet}
use Rattle.model.specs.Mutant.{slots, IsMutant}
use Rattle.model.specs.Suite.{compare_of}
use Rattle.model.specs.Log.{Observation, GivesLog, suite_log}
use Rattle.block.specs.Logged.{observations}
use Rattle.block.specs.Tabled.{Tabled}
use Rattle.cubes.specs.declared.goal.Goal.{Goal}
use Rattle.cubes.specs.declared.goal.Goal.TheVariants.{Any, Nonconforming}
use Rattle.refutation.specs.Refuting.{Ready}
use Rattle.search.specs.declared.settle.GaveUp.{GaveUp}
use Rattle.search.specs.declared.settle.Beginning.{Beginning}
use Rattle.search.specs.declared.settle.Beginning.TheVariants.{Front, After}

-- what a goal asks of compare's answer
abbrev pub Meets : Goal → Option (List ℕ) → Type 0
Meets Any o = Unit {0}
Meets Nonconforming o = o ≡ none → ⊥

-- the mutant b gives the log and meets the goal
pub record Wanted (goal : Goal) (sh : Sheet) (l : List Observation) (b : List ℕ) : Type 0 where
  pub gives : GivesLog sh b l
  pub meets : Meets goal (compare_of sh b)

-- b and p have the same first i choices
pub record Begins (i : ℕ) (b p : List ℕ) : Type 0 where
  pub at : (j : ℕ) → j < i → slice_index b j ≡ slice_index p j

-- which mutants are meant: those that begin as p's first i choices and have at least the choice c next; or those that begin as
-- last's first i choices and stand after last
pub data Part : Type 0 where
  next : List ℕ → ℕ → ℕ → Part
  after : List ℕ → ℕ → Part

abbrev pub In : Part → List ℕ → Type 0
In (next p i c) b = Begins i b p × (c ≤ slice_index b i)
In (after last i) b = Begins i b last × Before last b

-- none of them is wanted
pub record NoneOf (goal : Goal) (sh : Sheet) (l : List Observation) (part : Part) : Type 0 where
  pub at : (b : List ℕ) → IsMutant sh b → In part b → Wanted goal sh l b → ⊥

-- a is the first of them that is wanted
pub record FirstOf (goal : Goal) (sh : Sheet) (l : List Observation) (part : Part) (a : List ℕ) : Type 0 where
  pub is : IsMutant sh a
  pub among : In part a
  pub wanted : Wanted goal sh l a
  pub first : (b : List ℕ) → IsMutant sh b → In part b → Before b a → Wanted goal sh l b → ⊥

-- of those that begin as p's first i choices none is wanted with a choice from `from` on and below c next
pub record Tried (goal : Goal) (sh : Sheet) (l : List Observation) (p : List ℕ) (i from c : ℕ) : Type 0 where
  pub at : (b : List ℕ) → IsMutant sh b → Begins i b p → from ≤ slice_index b i → slice_index b i < c → Wanted goal sh l b → ⊥

-- the first i choices of p are settled and in range, and the others are not settled (256)
pub record Prefix (sh : Sheet) (p : List ℕ) (i : ℕ) : Type 0 where
  pub long : length p ≡ 32
  pub few : length (slots sh) ≤ 32
  pub within : i ≤ length (slots sh)
  pub low : (j : ℕ) → j < i → slice_index p j < slice_index (slots sh) j
  pub rest : (j : ℕ) → j < 32 → i ≤ j → slice_index p j ≡ 256

-- the mutant with the choices p
abbrev pub mutant_in : Sheet → List ℕ → List ℕ
mutant_in sh p = take (length (slots sh)) p

-- its choices stand in q
pub record FirstIn (goal : Goal) (sh : Sheet) (l : List Observation) (part : Part) (q : List ℕ) : Type 0 where
  pub long : length q ≡ 32
  pub first : FirstOf goal sh l part (mutant_in sh q)

-- what the search of a part finds
abbrev pub Finds : Goal → Sheet → List Observation → Part → Maybe (List ℕ) → Type 0
Finds goal sh l part None = NoneOf goal sh l part
Finds goal sh l part (Some q) = FirstIn goal sh l part q

-- what it answers: this, or, where it gave up, nothing
abbrev pub Answers : Goal → Sheet → List Observation → Part → Answer (Maybe (List ℕ)) GaveUp → Type 0
Answers goal sh l part (Ok found) = Finds goal sh l part found
Answers goal sh l part (Err e) = Unit {0}

-- the block holds the sheet's tables, and the log is its suite's
pub record ForSheet (sh : Sheet) (m log : List ℕ) : Type 0 where
  pub tabled : Tabled sh m
  pub suite : observations log ≡ suite_log sh

-- what the search works with: the sheet's tables; and of its slots the first i are settled in p
pub record Searching (sh : Sheet) (m p : List ℕ) (i : ℕ) : Type 0 where
  pub tabled : Tabled sh m
  pub prefix : Prefix sh p i

-- the choices of a mutant as far as they go, and then nothing settled
pub record Settled (last p : List ℕ) : Type 0 where
  pub long : length p ≡ 32
  pub at : (j : ℕ) → j < 32 → j < length last → slice_index p j ≡ slice_index last j
  pub rest : (j : ℕ) → j < 32 → length last ≤ j → slice_index p j ≡ 256

pub record Decides (P : Type 0) (r : Bool) : Type 0 where
  pub yes : r ≡ true → P
  pub no : r ≡ false → P → ⊥

-- some mutant gives the log
pub record Given (sh : Sheet) (l : List Observation) : Type 0 where
  pub mutant : List ℕ
  pub is : IsMutant sh mutant
  pub gives : GivesLog sh mutant l

-- nothing is settled
abbrev pub unsettled : List ℕ
unsettled = replicate 32 256

-- every mutant
abbrev pub every : Part
every = next unsettled 0 0

-- which mutants are meant where a search begins: every one, or those after the one given
abbrev pub part_from : Beginning → Part
part_from Front = every
part_from (After last) = after last.now 0

abbrev pub LastOk : Beginning → Sheet → Type 0
LastOk Front sh = Unit {0}
LastOk (After last) sh = IsMutant sh last.now

-- what a search begins with: the sheet's tables, and a mutant, if it begins after one
pub record Leaving (sh : Sheet) (m : List ℕ) (from : Beginning) : Type 0 where
  pub tabled : Tabled sh m
  pub is : LastOk from sh

-- the same, of a search after the mutant given
pub record LeavingAfter (sh : Sheet) (m last : List ℕ) : Type 0 where
  pub tabled : Tabled sh m
  pub is : IsMutant sh last

-- each table of facts that a search is lent is the block's; a quick search is lent none
pub record FactsOk (m : List ℕ) (facts : List (List ℕ)) : Type 0 where
  pub at : (i : ℕ) → i < length facts → Ready m (slice_index_or facts i [])
