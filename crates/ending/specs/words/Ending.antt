-- What END looks at: words for the contracts of the crate's own functions, and of `finish`.
use Rattle.std.specs.Prelude.{Result as Answer}
use Rattle.std.specs.Prelude.{ℕ, ◌<◌, ◌≡◌, Bool, true, false, List, ltb, length, get_or}
use Rattle.sheet.specs.declared.Row.{Row}
use Rattle.sheet.specs.declared.Size.{Size}
use Rattle.sheet.specs.declared.Refusal.{Refusal}
use Rattle.lists.specs.Lists.{any}
use Rattle.sheet.specs.Sheet.{Sheet, rows_at, leads, unruled_choices, open_slots}
use Rattle.sheet.specs.Reading.{Reading}
use Rattle.sheet.specs.Tables.{answer_by}
use Rattle.sheet.specs.words.Tabled.{ByPair, Leads, present, StartsHold}

-- sixteen marks, of the states of which g holds
pub record Marks (l : List Bool) (g : ℕ → Bool) : Type 0 where
  pub size : length l ≡ 16
  pub at : (t : ℕ) → t < 16 → get_or l t false ≡ g t

-- where a rule at a state of f leads, g holds
pub record Follows (z : Size) (rules : List Row) (f g : ℕ → Bool) : Type 0 where
  pub each : (s t : ℕ) → s < z.states → f s ≡ true → any (λ x. leads rules s x t) z.inputs ≡ true → g t ≡ true

-- rules, faults and whether a pair without a rule is open are those of a sheet
pub record Linked (unruled : Bool) (ts ms : List ℕ) (sh : Sheet) : Type 0 where
  pub unruled-is : unruled ≡ ltb 1 (unruled_choices sh)
  pub leads : Leads ts sh.rules
  pub faulty : ByPair ms (λ s x. present (rows_at sh.faults s x))

-- the sizes, the key of the last START, whether there is a QUIET, the rules and the faults are those of a sheet
pub record Gathered (z : Size) (starts : ℕ) (quiet : Bool) (ts ms : List ℕ) (sh : Sheet) : Type 0 where
  pub size : z ≡ sh.size
  pub starts-are : StartsHold starts sh.starts
  pub quiet_is : quiet ≡ sh.quiet
  pub leads : Leads ts sh.rules
  pub faulty : ByPair ms (λ s x. present (rows_at sh.faults s x))

-- how a reading ends, for the code
abbrev pub end_of : Reading → Answer ℕ Refusal
end_of r = answer_by open_slots r
