-- `put_fields` writes a blank and a number for each byte: after some of them, those are written.
use Prim.Native.Nat.{◌+◌, ◌*◌, ◌≤◌}
use lib.ListN.{length, take}
use Rattle.writing.specs.words.Spelled.{Spelled}
use Rattle.report.specs.Text.{fields}
use Rattle.report.proofs.text.put_fields.Given as goal

abbrev pub invariant-loop-number : goal.invariant-loop-number
invariant-loop-number l = (l.number-index ≤ length l.numbers) × (l.end ≤ l.at + 4 * l.number-index) × Spelled l.initial.out l.out l.at l.end (fields (take l.number-index l.numbers))
