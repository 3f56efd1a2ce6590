use Rattle.commands.proofs.ScanLaw.{fresh_holds}
use Rattle.commands.proofs.rules.State.fresh.Goals as goal

pub returns : goal.returns
returns c = fresh_holds
