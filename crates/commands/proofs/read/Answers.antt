use Rattle.commands.proofs.read.Goals as goal

pub returns : goal.returns
returns c = c.read_into.ensures.answer
