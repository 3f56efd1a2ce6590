-- What one turn of a sweep tells.
use Rattle.std.specs.Prelude.{Option as Maybe, IfSome, Result as Answer, Ok, Err}
use Rattle.std.specs.Prelude.{List, ℕ}
use Rattle.sheet.specs.Sheet.{Sheet}
use Rattle.search.specs.Search.{ForSheet, mutant_in}
use Rattle.search.specs.declared.settle.GaveUp.{GaveUp}
use Rattle.clearing.specs.Sweep.{Cleared, Clears}
use Rattle.clearing.specs.Looking.{Found}
use Rattle.clearing.specs.declared.order.Clearing.{Clearing}
use Rattle.sweep.specs.declared.turn.Turned.{Turned}
use Rattle.sweep.specs.declared.turn.Turned.TheVariants as turned

-- what is asked of p is answered by what clears it
abbrev pub AskedOk : List ℕ → List ℕ → List ℕ → Maybe Clearing → Type 0
AskedOk m log p r = IfSome r (λ c. (sh : Sheet) → ForSheet sh m log → Clears sh p c)

-- where the mutant p conforms
pub record ConformedOk (m log p : List ℕ) (c : Clearing) : Type 0 where
  pub at : (sh : Sheet) → ForSheet sh m log → Cleared sh (mutant_in sh p) → Clears sh p c

abbrev pub TurnedOk : Sheet → List ℕ → Turned → List ℕ → Type 0
TurnedOk sh p (turned.Cleared c) buffer = Clears sh p c
TurnedOk sh p (turned.Survives d) buffer = Found sh (mutant_in sh p) d buffer

-- or it gave up, and nothing is said
abbrev pub TurnOk : Sheet → List ℕ → Answer Turned GaveUp → List ℕ → Type 0
TurnOk sh p (Ok t) buffer = TurnedOk sh p t buffer
TurnOk sh p (Err e) buffer = Unit {0}
