-- What a sheet from a seed is.
use Rattle.std.specs.Prelude.{◌≡◌, ℕ, ◌+◌, ◌%◌, ◌<◌, ◌≤◌, false, List, [], length}
use Rattle.std.proofs.Math.Option.{some}
use Rattle.sheet.specs.declared.Row.{Row}
use Rattle.sheet.specs.declared.Size.{Size}
use Rattle.lists.specs.Lists.{All}
use Rattle.sheet.specs.Sheet.{Sheet, rule_at}
use Rattle.sheet.specs.Reading.{accepted, reading}
use Rattle.sheet.specs.WellFormed.{SizeIn}
use Rattle.std.specs.Prelude.{Result as Answer}
use Rattle.sheet.specs.declared.Refusal.{Refusal}
use Rattle.writing.specs.Writing.{Refuses, Writes}
use Rattle.generator.specs.Generating.{fault_of}

-- there is a rule at s and x; that of input 0 leads to the next state
pub record Ruled (z : Size) (rules : List Row) (s x : ℕ) : Type 0 where
  pub rule : Row
  pub there : rule_at rules s x ≡ some rule
  pub onward : x ≡ 0 → rule.target ≡ (s + 1) % z.states

-- a fault of the rule at its pair: the next output, the same next state
pub record Faulty (z : Size) (rules : List Row) (r : Row) : Type 0 where
  pub rule : Row
  pub there : rule_at rules r.source r.input ≡ some rule
  pub is : r ≡ fault_of z rule

-- the bytes are an accepted sheet of this size without QUIET, STARTs and tests, with a rule at every pair and at most 32 faults
pub record Generated (z : Size) (s : List ℕ) : Type 0 where
  pub sheet : Sheet
  pub reads : reading s ≡ accepted sheet
  pub size : sheet.size ≡ z
  pub loud : sheet.quiet ≡ false
  pub unstarted : sheet.starts ≡ []
  pub untested : sheet.tests ≡ []
  pub ruled : (t x : ℕ) → t < z.states → x < z.inputs → Ruled z sheet.rules t x
  pub few : length sheet.faults ≤ 32
  pub faulty : All (Faulty z sheet.rules) sheet.faults

-- 02's sentences in their order, of the answer and of the buffer as lent and after it
pub record ToldGenerated (z : Size) (r : Answer ℕ Refusal) (old new : List ℕ) : Type 0 where
  -- sizes out of range
  pub range : (SizeIn z → ⊥) → Refuses 4 r old new
  -- then a buffer below 16,384 bytes
  pub short : SizeIn z → length old < 16384 → Refuses 16 r old new
  -- everything else is written
  pub sheet : SizeIn z → 16384 ≤ length old → (s : List ℕ) × Writes s r new × Generated z s
