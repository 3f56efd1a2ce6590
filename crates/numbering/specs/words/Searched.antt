-- What the search's functions promise one another.
use Rattle.std.specs.Prelude.{ℕ, ◌<◌, ◌≤◌, ◌≡◌, cond, List, ltb, length}
use Rattle.sheet.specs.Sheet.{Sheet, rule_at}
use Rattle.sheet.specs.WellFormed.{WellFormed}
use Rattle.sheet.specs.words.Tabled.{ByPair, rule_target}
use Rattle.renaming.specs.Ordering.{place_in}
use Rattle.renaming.specs.Renaming.{meet}
use Rattle.renaming.proofs.laws.MarkLaw.{Marked}
use Rattle.numbering.specs.declared.first_reached.Met.{Met}

-- the states met, and t after them if it is a state and new
abbrev pub meet_next : List ℕ → ℕ → List ℕ
meet_next met t = cond (ltb t 16) (meet met t) met

-- where t is a new state, there is room for it
abbrev pub Room : List ℕ → ℕ → Type 0
Room met t = t < 16 → length met ≤ place_in t met → length met < 16

-- the states met, as they stand
abbrev pub MarkedIn : List ℕ → Met → Type 0
MarkedIn met m = Marked met m.order m.number m.count

-- the table has the next states of a sheet's rules, which has so many inputs
pub record Searched (sh : Sheet) (target : List ℕ) (inputs : ℕ) : Type 0 where
  pub formed : WellFormed sh
  pub width : inputs ≡ sh.size.inputs
  pub table : ByPair target (λ s x. rule_target (rule_at sh.rules s x))
