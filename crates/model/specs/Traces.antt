-- 000, section 2.1: transition relations, traces and quasi-equivalence. Laws say that the machines here are those.
use Rattle.std.specs.Prelude.{ℕ, ◌≡◌, List, [], ◌∷◌}
use Rattle.std.proofs.Math.Option.{Option, some}
use Rattle.model.specs.Machine.{Move}

-- (s, x, o, t) is a transition
abbrev pub Relation : Type 1
Relation = ℕ → ℕ → ℕ → ℕ → Type 0

-- the inputs xs with the outputs os label an execution from s
unfoldable pub TraceFrom : Relation → ℕ → List ℕ → List ℕ → Type 0
TraceFrom T s [] [] = Unit {0}
TraceFrom T s [] (o ∷ os) = ⊥
TraceFrom T s (x ∷ xs) [] = ⊥
TraceFrom T s (x ∷ xs) (o ∷ os) = (t : ℕ) × T s x o t × TraceFrom T t xs os

-- N is quasi-equivalent to M: every trace of M is one of N
unfoldable pub QuasiEquivalent : Relation → ℕ → Relation → ℕ → Type 0
QuasiEquivalent M s N t = (xs os : List ℕ) → TraceFrom M s xs os → TraceFrom N t xs os

-- the transitions of a specification, and of a machine
abbrev pub specification : (ℕ → ℕ → Option Move) → Relation
specification rule s x o t = rule s x ≡ some (record { output = o; target = t })

abbrev pub machine : (ℕ → ℕ → Move) → Relation
machine move s x o t = move s x ≡ record { output = o; target = t }
