use Rattle.usage.proofs.MarkLaw.{or-shl}
use Rattle.usage.proofs.marks.with.Goals as goal

pub returns : goal.returns
returns c = or-shl c.args.set c.args.i c.requires
