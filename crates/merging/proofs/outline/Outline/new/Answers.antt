-- `new`: what reading told of the sheet.
use Rattle.merging.proofs.PartsLaw.{outlined}
use Rattle.merging.proofs.outline.Outline.new.Goals as goal

pub returns : goal.returns
returns c = λ sh e. outlined c.args.sheet sh e c.requires (c.layout_of.ensures sh e)
