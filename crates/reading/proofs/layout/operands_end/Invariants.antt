use Rattle.std.proofs.Common.{ℕ, ◌≡◌, ◌≤◌, ◌-◌, ◌++◌, List, length, drop}
use Rattle.std.specs.Prelude.{◌⊎◌}
use Rattle.sheet.specs.Encode.{operand_bytes}
use Rattle.sheet.specs.laws.InjectiveLaw.{Else}
use Rattle.reading.proofs.PlaceLaw as laws
use Rattle.reading.proofs.layout.operands_end.Given as goal

abbrev pub invariant-loop-at : goal.invariant-loop-at
invariant-loop-at l = record {
  after : l.place ≤ l.at;
  within : l.at ≤ length l.sheet;
  left : (b : ℕ) (xs rest : List ℕ) → (b ≡ 5) ⊎ (b ≡ 7) → drop l.place l.sheet ≡ operand_bytes b xs ++ rest → Else 5 rest → Else 7 rest → laws.Left l.sheet b xs rest l.place l.at;
}

abbrev pub decreases-loop-at : goal.decreases-loop-at
decreases-loop-at l = length l.sheet - l.at
