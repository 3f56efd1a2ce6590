-- The mutants of a sheet in dictionary order, from one to the next that is not yet known to be cleared.
use Rattle.std.specs.Prelude.{◌≡◌, Bool, true, false, List, ℕ, ◌+◌, ◌<◌, ◌≤◌, ◌^◌, length, get_or}
use Rattle.std.proofs.Math.Option.{none}
use Rattle.sheet.specs.Sheet.{Sheet}
use Rattle.model.specs.Mutant.{IsMutant}
use Rattle.model.specs.Suite.{Passes, compare_of}
use Rattle.block.specs.Layout.{choices_of}
use Rattle.cubes.specs.Sets.{Has}
use Rattle.clearing.specs.declared.order.Clearing.{Clearing}

-- the mutant b is no survivor: if it passes the suite, compare finds nothing
abbrev pub Cleared : Sheet → List ℕ → Type 0
Cleared sh b = Passes sh b → compare_of sh b ≡ none

abbrev pub AllCleared : Sheet → Type 0
AllCleared sh = (b : List ℕ) → IsMutant sh b → Cleared sh b

-- b has the choices of p at the slots of the set
pub record Shares (p : List ℕ) (set : ℕ) (b : List ℕ) : Type 0 where
  pub at : (j : ℕ) → Has set j → get_or b j 0 ≡ get_or p j 0

-- every mutant that has them is cleared
pub record Blames (sh : Sheet) (p : List ℕ) (set : ℕ) : Type 0 where
  pub at : (b : List ℕ) → IsMutant sh b → Shares p set b → Cleared sh b

-- j is the highest slot of the set
pub record Top (set j : ℕ) : Type 0 where
  pub low : j < 32
  pub least : 2 ^ j ≤ set
  pub most : set < 2 ^ (j + 1)

-- p has a choice for every slot (0 past the last)
pub record Full (m p : List ℕ) : Type 0 where
  pub long : length p ≡ 32
  pub low : (i : ℕ) → i < 32 → get_or p i 0 < choices_of m i

-- For each slot a set of slots before it is blamed: every mutant that has p's choices there and a smaller choice at the slot itself is
-- cleared. So no mutant before p is a survivor
pub record Swept (sh : Sheet) (m p blame : List ℕ) : Type 0 where
  pub full : Full m p
  pub blame-long : length blame ≡ 32
  pub before : (i : ℕ) → i < 32 → get_or blame i 0 < 2 ^ i
  pub cleared : (i : ℕ) → i < 32 → (b : List ℕ) → IsMutant sh b → Shares p (get_or blame i 0) b → get_or b i 0 < get_or p i 0 → Cleared sh b

-- every mutant is cleared that has p's choices at the slots of the set but the highest, and there p's choice or a later one below c; every
-- mutant if the set is empty
pub record Refutes (sh : Sheet) (p : List ℕ) (set c : ℕ) : Type 0 where
  pub all : set ≡ 0 → AllCleared sh
  pub more : (j : ℕ) → Top set j → get_or p j 0 < c
  pub at : (j : ℕ) → Top set j → (b : List ℕ) → IsMutant sh b → ((i : ℕ) → i < j → Has set i → get_or b i 0 ≡ get_or p i 0) → get_or p j 0 ≤ get_or b j 0 → get_or b j 0 < c → Cleared sh b

-- this is what clears p
abbrev pub Clears : Sheet → List ℕ → Clearing → Type 0
Clears sh p c = Refutes sh p c.by c.next

-- the number at j is v, those before it are as they were, and those after it are 0
pub record Reset (old new : List ℕ) (j v : ℕ) : Type 0 where
  pub long : length new ≡ 32
  pub same : (i : ℕ) → i < j → get_or new i 0 ≡ get_or old i 0
  pub here : get_or new j 0 ≡ v
  pub rest : (i : ℕ) → j < i → i < 32 → get_or new i 0 ≡ 0

-- q stands later than p in dictionary order
pub record Later (p q : List ℕ) : Type 0 where
  pub place : ℕ
  pub low : place < 32
  pub same : (i : ℕ) → i < place → get_or q i 0 ≡ get_or p i 0
  pub more : get_or p place 0 < get_or q place 0

-- the sweep went on to a later mutant, or has come to its end
abbrev pub Advanced : Sheet → List ℕ → List ℕ → Bool → List ℕ → List ℕ → Type 0
Advanced sh m p true q blame = Swept sh m q blame × Later p q
Advanced sh m p false q blame = AllCleared sh
