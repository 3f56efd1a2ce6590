-- What the functions that draw promise one another: rows in tables of four bytes a row.
use Rattle.std.specs.Prelude.{ℕ, ◌+◌, ◌*◌, ◌/◌, ◌%◌, ◌≤◌, cond, List, [], ◌∷◌, length}
use Rattle.sheet.specs.declared.Row.{Row}
use Rattle.sheet.specs.declared.Size.{Size}
use Rattle.lists.specs.Lists.{joined}
use Rattle.sheet.specs.Sheet.{row_of}
use Rattle.sheet.specs.WellFormed.{SizeIn}
use Rattle.writing.specs.words.Spelled.{Spelled}
use Rattle.generator.specs.declared.pairs.Pair.{Pair}
use Rattle.generator.specs.Generating.{third, drawn, rule_from, is_faulty, fault_of, Draft}

-- a pair's rule and its third draw
abbrev pub pair_from : Size → ℕ → ℕ → ℕ → Pair
pair_from z seed s x = record { rule = rule_from z seed s x; lot = drawn 8 (third seed) }

-- the fault that a pair with this rule and third draw gets, if any
abbrev pub faults_of : Size → Row → ℕ → ℕ → List Row
faults_of z rule lot standing = cond (is_faulty z lot standing) (fault_of z rule ∷ []) []

-- a size in range, and tables with room for its rules and 32 faults
pub record Ready (z : Size) (rs fs : List ℕ) : Type 0 where
  pub size : SizeIn z
  pub rules : 1024 ≤ length rs
  pub faults : 128 ≤ length fs

-- from a seed and so many faults, pair i is put into the tables
pub record PairPut (z : Size) (i seed standing standing' : ℕ) (rs rs' fs fs' : List ℕ) : Type 0 where
  pub rule : Spelled rs rs' (4 * i) (4 * i + 4) (row_of (rule_from z seed (i / z.inputs) (i % z.inputs)))
  pub fault : Spelled fs fs' (4 * standing) (4 * standing')
      (joined row_of (faults_of z (rule_from z seed (i / z.inputs) (i % z.inputs)) (drawn 8 (third seed)) standing))

-- the rows of a draft of i pairs stand at the front of the tables
pub record Standing (d : Draft) (i standing : ℕ) (rs rs' fs fs' : List ℕ) : Type 0 where
  pub rules : Spelled rs rs' 0 (4 * i) (joined row_of d.rules)
  pub faults : Spelled fs fs' 0 (4 * standing) (joined row_of d.faults)
