use Rattle.block.proofs.PackingLaw.{copied}
use Rattle.block.proofs.packing.copy.Goals as goal

pub returns : goal.returns
returns c = copied c.args.base c.args.from.now c.requires.0 c.requires.1 c.copy_from_slice.ensures.after
