-- Whether bytes are a mutant of a sheet, and its machine.
use Rattle.std.specs.Prelude.{Option as Maybe, Result as Answer, Some, None, Ok, Err}
use Rattle.std.specs.Prelude.{ℕ, ◌*◌, ◌≤◌, ◌<◌, ◌≡◌, List, length, get_or}
use Rattle.sheet.specs.declared.Refusal.{Refusal}
use Rattle.sheet.specs.Sheet.{Sheet}
use Rattle.sheet.specs.Reading.{Result, accepted}
use Rattle.model.specs.Mutant.{IsMutant, initial, step}
use Rattle.model.specs.Operations.{with_mutant}
use Rattle.block.specs.Layout.{choices_of}
use Rattle.sheet.specs.Tables.{answer_by}
use Rattle.machine.specs.declared.laying.Machine.{Machine}
use Rattle.machine.specs.Laid.{Moves}

-- each choice of b before r is in range, and r's is not, if there is one
pub record HighAt (m b : List ℕ) (r : ℕ) : Type 0 where
  pub most : r ≤ length b
  pub low : (j : ℕ) → j < r → get_or b j 0 < choices_of m j
  pub high : r < length b → choices_of m r ≤ get_or b r 0

-- the first that is not in range, if there is one
abbrev pub FirstHigh : List ℕ → List ℕ → Maybe ℕ → Type 0
FirstHigh m b None = HighAt m b (length b)
FirstHigh m b (Some r) = HighAt m b r × (r < length b)

-- 13 and 14, or the bytes are those of a mutant
abbrev pub Fit : Type 0
Fit = Answer (Unit {0}) Refusal

abbrev pub fit_answer : Result (Unit {0}) → Fit
fit_answer r = answer_by (λ u. u) r

unfoldable pub fit_of : Sheet → List ℕ → Fit
fit_of sh b = fit_answer (with_mutant sh b (accepted tt))

-- the bytes as choices, 0 past the last
pub record Widened (b p : List ℕ) : Type 0 where
  pub long : length p ≡ 32
  pub at : (i : ℕ) → i < 32 → get_or p i 0 ≡ get_or b i 0

-- the machine of a mutant
pub record Machined (sh : Sheet) (b : List ℕ) (r : Machine) : Type 0 where
  pub is : IsMutant sh b
  pub start : r.start ≡ initial sh b
  pub moves : Moves (step sh b) r.output r.target (16 * sh.size.states)

-- the same, or why the bytes are no mutant
abbrev pub MachinedBy : Sheet → List ℕ → Answer Machine Refusal → Type 0
MachinedBy sh b (Ok r) = Machined sh b r
MachinedBy sh b (Err why) = fit_of sh b ≡ Err why
