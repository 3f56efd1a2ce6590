use Rattle.std.proofs.Common.{ℕ, ◌≡◌, List, length}
use Rattle.reading.specs.words.Places.{StartsFrom}
use Rattle.reading.proofs.FillLaw as laws
use Rattle.reading.proofs.filling.wakings_from.Given as goal

abbrev pub invariant-loop-i : goal.invariant-loop-i
invariant-loop-i it = (l : List ℕ) → StartsFrom it.sheet it.place l → it.starts ≡ length l → laws.Waking l it.wakings it.i
