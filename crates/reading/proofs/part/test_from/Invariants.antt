use Rattle.std.proofs.Common.{ℕ, ◌≡◌, ◌<◌, List, [], ◌∷◌, ◌++◌, length, drop}
use Rattle.sheet.specs.Encode.{test_bytes}
use Rattle.reading.proofs.PlaceLaw as laws
use Rattle.reading.proofs.part.test_from.Given as goal

abbrev pub invariant-loop-j : goal.invariant-loop-j
invariant-loop-j it = (l : List (List ℕ)) → drop it.place it.sheet ≡ test_bytes l ++ 6 ∷ [] → it.i < length l → laws.TestPlace it.sheet it.place l it.j it.at
