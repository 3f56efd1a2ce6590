-- `bytes`: those before are spelled.
use lib.ListN.{drop}
use Rattle.writing.proofs.laws.SpelledLaw.{Spelling}
use Rattle.writing.proofs.spell.bytes.Given as goal

abbrev pub invariant-loop-x : goal.invariant-loop-x
invariant-loop-x l = Spelling l.initial.sheet l.sheet l.at l.to l.part (drop l.x-index l.part)
