-- What reading answers.
use Rattle.std.specs.Prelude.{Result, List, ℕ, ◌≤◌, ◌≡◌, IfOk, length, take}

-- the bytes that were read lie in the buffer
abbrev pub Fits : {E : Type 0} → Result ℕ E → List ℕ → Type 0
Fits r buffer = IfOk r (λ n. (n ≤ length buffer) × (n ≡ length (take n buffer)))
