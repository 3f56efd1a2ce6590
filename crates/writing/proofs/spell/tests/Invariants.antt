-- `tests`: those before are spelled, and the inputs of the others are left.
use Rattle.std.proofs.Common.{◌≤◌, length, drop}
use Rattle.sheet.specs.Encode.{test_bytes}
use Rattle.writing.specs.Drawing.{tests_of, total}
use Rattle.writing.proofs.laws.SpelledLaw.{Spelling}
use Rattle.writing.proofs.spell.tests.Given as goal

abbrev pub invariant-loop-n : goal.invariant-loop-n
invariant-loop-n l = record {
  enough : total (drop l.n-index l.lengths) ≤ length l.rest;
  spelled : Spelling l.initial.sheet l.sheet l.at l.to (test_bytes (tests_of l.lengths l.inputs)) (test_bytes (tests_of (drop l.n-index l.lengths) l.rest));
}
