use Rattle.sweep.proofs.TurnLaw.{asked-some}
use Rattle.sweep.proofs.turn.ask.Goals as goal

pub returns : goal.returns
returns c = let told = c.in_ok-cube.ensures in (told.0.kept, asked-some c.requires.2 c.prefix-q.ensures told.0.told told.1 c.cleared_by.ensures)
