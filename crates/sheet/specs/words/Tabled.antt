-- What numbers and tables by pair say of rows: words for the contracts of the crates that read a sheet.
use Rattle.std.specs.Prelude.{ℕ, suc, ◌+◌, ◌*◌, ◌<◌, ◌≤◌, ◌≡◌, List, [], ◌∷◌, length, get_or}
use Rattle.std.proofs.Math.Option.{Option, none, some}
use Rattle.sheet.specs.declared.Row.{Row}
use Rattle.sheet.specs.declared.Size.{Size}
use Rattle.lists.specs.Lists.{maybe, last, All}
use Rattle.sheet.specs.Sheet.{rule_at}

pub record Within16 (z : Size) : Type 0 where
  pub states : z.states ≤ 16
  pub inputs : z.inputs ≤ 16
  pub outputs : z.outputs ≤ 16

-- the numbers of a row are digits to base 16
pub record Digits (r : Row) : Type 0 where
  pub source : r.source < 16
  pub input : r.input < 16
  pub output : r.output < 16
  pub target : r.target < 16

-- the place of a state and an input in a table
abbrev pub place_of : ℕ → ℕ → ℕ
place_of s x = s * 16 + x

-- of rows of digits a greater key stands later in the dictionary
abbrev pub pair_key : Row → ℕ
pair_key r = place_of r.source r.input

abbrev pub row_key : Row → ℕ
row_key r = pair_key r * 256 + (r.output * 16 + r.target)

-- one more than the key of the last one, 0 before the first
abbrev pub next_key : {A : Type 0} → (A → ℕ) → Option A → ℕ
next_key key none = 0
next_key key (some r) = suc (key r)

-- a table of 256 numbers that holds g at each state and input
pub record ByPair (t : List ℕ) (g : ℕ → ℕ → ℕ) : Type 0 where
  pub size : length t ≡ 256
  pub at : (s x : ℕ) → s < 16 → x < 16 → get_or t (place_of s x) 0 ≡ g s x

-- a number of a rule, 255 where there is none
abbrev pub rule_output : Option Row → ℕ
rule_output found = maybe found 255 (λ r. r.output)

abbrev pub rule_target : Option Row → ℕ
rule_target found = maybe found 255 (λ r. r.target)

-- a table of the rules' next states
pub record Leads (ts : List ℕ) (rules : List Row) : Type 0 where
  pub digits : All Digits rules
  pub table : ByPair ts (λ s x. rule_target (rule_at rules s x))

-- 1 where there are rows
abbrev pub present : List Row → ℕ
present [] = 0
present (r ∷ rows) = 1

-- the STARTs' states ascend by themselves
pub record StartsHold (t : ℕ) (l : List ℕ) : Type 0 where
  pub key : t ≡ next_key (λ s. s) (last l)
  pub most : t ≤ 16
