-- `command`: its byte, then its operands.
use Rattle.writing.proofs.laws.SpelledLaw.{spelled-both}
use Rattle.writing.proofs.spell.command.Goals as goal

pub returns : goal.returns
returns c = spelled-both c.byte-to.ensures c.bytes.ensures
