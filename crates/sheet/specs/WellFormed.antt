-- What holds of every accepted sheet, and is all that an accepted sheet has to meet besides its length.
use Rattle.std.specs.Prelude.{ℕ, ◌<◌, ◌≤◌, ◌≡◌, List, length}
use Rattle.std.proofs.Math.Option.{some}
use Rattle.sheet.specs.declared.Row.{Row}
use Rattle.sheet.specs.declared.Size.{Size}
use Rattle.lists.specs.Lists.{All, Ascending, Before}
use Rattle.sheet.specs.Sheet.{Sheet, pair_of, row_of, rule_at, after, open_slots}

pub record OneTo16 (n : ℕ) : Type 0 where
  pub some : 1 ≤ n
  pub few : n ≤ 16

pub record SizeIn (z : Size) : Type 0 where
  pub states : OneTo16 z.states
  pub inputs : OneTo16 z.inputs
  pub outputs : OneTo16 z.outputs

pub record RowIn (z : Size) (r : Row) : Type 0 where
  pub source : r.source < z.states
  pub input : r.input < z.inputs
  pub output : r.output < z.outputs
  pub target : r.target < z.states

-- a fault has a rule at its pair, and is another
pub record Mutates (rules : List Row) (r : Row) : Type 0 where
  pub rule : Row
  pub there : rule_at rules r.source r.input ≡ some rule
  pub other : r ≡ rule → ⊥

-- a waking state is a state other than 0
pub record StartIn (z : Size) (t : ℕ) : Type 0 where
  pub some : 1 ≤ t
  pub inside : t < z.states

-- a test is a defined sequence of at most 256 inputs
pub record TestIn (rules : List Row) (xs : List ℕ) : Type 0 where
  pub reached : ℕ
  pub defined : after rules 0 xs ≡ some reached
  pub short : length xs ≤ 256

-- some input sequence leads along rules from 0 to t
pub record Reachable (sh : Sheet) (t : ℕ) : Type 0 where
  pub inputs : List ℕ
  pub leads : after sh.rules 0 inputs ≡ some t

pub record WellFormed (sh : Sheet) : Type 0 where
  pub size : SizeIn sh.size
  pub rules : All (RowIn sh.size) sh.rules
  pub rules-ascend : Ascending (λ q r. Before (pair_of q) (pair_of r)) sh.rules
  pub faults : All (RowIn sh.size) sh.faults
  pub faults-ascend : Ascending (λ q r. Before (row_of q) (row_of r)) sh.faults
  pub faults-mutate : All (Mutates sh.rules) sh.faults
  pub few-faults : length sh.faults ≤ 256
  pub starts : All (StartIn sh.size) sh.starts
  pub starts-ascend : Ascending ◌<◌ sh.starts
  pub few-tests : length sh.tests ≤ 256
  pub tests : All (TestIn sh.rules) sh.tests
  pub reached : (t : ℕ) → t < sh.size.states → Reachable sh t
  pub few-open : open_slots sh ≤ 32
