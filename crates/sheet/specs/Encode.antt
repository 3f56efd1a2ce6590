-- The bytes of a sheet.
use Rattle.std.specs.Prelude.{ℕ, Bool, cond, List, [], ◌∷◌, ◌++◌}
use Rattle.sheet.specs.declared.Row.{Row}
use Rattle.sheet.specs.declared.Size.{Size}
use Rattle.sheet.specs.Sheet.{Sheet}

-- a command for each row, with the command byte b
unfoldable pub row_bytes : ℕ → List Row → List ℕ
row_bytes b [] = []
row_bytes b (r ∷ rs) = b ∷ r.source ∷ r.input ∷ r.output ∷ r.target ∷ row_bytes b rs

-- a command with one operand for each number
unfoldable pub operand_bytes : ℕ → List ℕ → List ℕ
operand_bytes b [] = []
operand_bytes b (x ∷ xs) = b ∷ x ∷ operand_bytes b xs

-- a START for each state, a PRESS for each input
abbrev pub start_bytes : List ℕ → List ℕ
start_bytes ts = operand_bytes 7 ts

abbrev pub press_bytes : List ℕ → List ℕ
press_bytes xs = operand_bytes 5 xs

unfoldable pub test_bytes : List (List ℕ) → List ℕ
test_bytes [] = []
test_bytes (xs ∷ l) = 4 ∷ press_bytes xs ++ test_bytes l

unfoldable pub size_bytes : Size → List ℕ
size_bytes z = 1 ∷ z.states ∷ z.inputs ∷ z.outputs ∷ []

unfoldable pub quiet_bytes : Bool → List ℕ
quiet_bytes quiet = cond quiet (8 ∷ []) []

-- all before the tests
unfoldable pub machine_bytes : Sheet → List ℕ
machine_bytes sh = size_bytes sh.size ++ (quiet_bytes sh.quiet ++ (row_bytes 2 sh.rules ++ (row_bytes 3 sh.faults ++ start_bytes sh.starts)))

-- all but the END
unfoldable pub body : Sheet → List ℕ
body sh = machine_bytes sh ++ test_bytes sh.tests

unfoldable pub encode : Sheet → List ℕ
encode sh = body sh ++ 6 ∷ []
