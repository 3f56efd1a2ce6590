-- `rows`: those before are spelled.
use Rattle.std.proofs.Common.{◌≡◌}
use Rattle.sheet.specs.Encode.{row_bytes}
use Rattle.std.specs.Slice.Iter.{chunks_exact_rest, chunks_exact_size}
use Rattle.writing.specs.Drawing.{rows_of}
use Rattle.writing.proofs.laws.SpelledLaw.{Spelling}
use Rattle.writing.proofs.spell.rows.Given as goal

abbrev pub invariant-loop-row : goal.invariant-loop-row
invariant-loop-row l = record {
  four : chunks_exact_size l.row-iterator ≡ 4;
  spelled : Spelling l.initial.sheet l.sheet l.at l.to (row_bytes l.b (rows_of l.table)) (row_bytes l.b (rows_of (chunks_exact_rest l.row-iterator)));
}
