-- The tests of a sheet, by its bytes and by tables of where each starts and how many inputs it has.
use Rattle.std.specs.Prelude.{ℕ, zero, suc, ◌+◌, ◌*◌, ◌≤◌, ◌<◌, ◌≡◌, List, [], ◌∷◌, length, get_or}
use Rattle.std.proofs.Math.Option.{Option, some}
use Rattle.model.specs.Machine.{Move, specified_from}

-- the inputs of so many PRESS commands from a place on
unfoldable pub inputs_at : List ℕ → ℕ → ℕ → List ℕ
inputs_at sheet at zero = []
inputs_at sheet at (suc n) = get_or sheet (at + 1) 0 ∷ inputs_at sheet (at + 2) n

-- so many tests from test t on
unfoldable pub tests_from : List ℕ → List ℕ → List ℕ → ℕ → ℕ → List (List ℕ)
tests_from sheet starts lengths t zero = []
tests_from sheet starts lengths t (suc n) =
    inputs_at sheet (get_or starts t 0) (get_or lengths t 0) ∷ tests_from sheet starts lengths (t + 1) n

abbrev pub tests_at : List ℕ → List ℕ → List ℕ → ℕ → List (List ℕ)
tests_at sheet starts lengths n = tests_from sheet starts lengths 0 n

-- the rules have few states, inputs and outputs
pub record LowAt (s x : ℕ) (r : Move) : Type 0 where
  pub state : s < 16
  pub input : x < 16
  pub output : r.output < 16

pub record Low (rule : ℕ → ℕ → Option Move) : Type 0 where
  pub at : (s x : ℕ) (r : Move) → rule s x ≡ some r → LowAt s x r

-- a sequence with specified outputs
pub record Defined (rule : ℕ → ℕ → Option Move) (s : ℕ) (xs : List ℕ) : Type 0 where
  pub expected : List ℕ
  pub specifies : specified_from rule s xs ≡ some expected

-- a defined test stands there
pub record TestAt (rule : ℕ → ℕ → Option Move) (sheet : List ℕ) (at n : ℕ) : Type 0 where
  pub low : Low rule
  pub inside : at + 2 * n ≤ length sheet
  pub defined : Defined rule 0 (inputs_at sheet at n)

pub record TestsAt (rule : ℕ → ℕ → Option Move) (sheet starts lengths : List ℕ) (n : ℕ) : Type 0 where
  pub few : n ≤ 256
  pub each : (t : ℕ) → t < n → TestAt rule sheet (get_or starts t 0) (get_or lengths t 0)
