-- `test`: TEST, then its inputs.
use Rattle.writing.proofs.laws.SpelledLaw.{spelled-both}
use Rattle.writing.proofs.spell.test.Goals as goal

pub returns : goal.returns
returns c = spelled-both c.byte-to.ensures c.operands.ensures
