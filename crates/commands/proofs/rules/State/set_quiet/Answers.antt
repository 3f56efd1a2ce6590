use Rattle.commands.proofs.StateLaw.{state-quiet}
use Rattle.commands.proofs.rules.State.set_quiet.Goals as goal

pub returns : goal.returns
returns c = λ p o h. state-quiet _ p h o
