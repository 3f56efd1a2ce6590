-- `operands`: those before are spelled.
use Rattle.std.proofs.Common.{drop}
use Rattle.sheet.specs.Encode.{operand_bytes}
use Rattle.writing.proofs.laws.SpelledLaw.{Spelling}
use Rattle.writing.proofs.spell.operands.Given as goal

abbrev pub invariant-loop-x : goal.invariant-loop-x
invariant-loop-x l = Spelling l.initial.sheet l.sheet l.at l.to (operand_bytes l.b l.table) (operand_bytes l.b (drop l.x-index l.table))
