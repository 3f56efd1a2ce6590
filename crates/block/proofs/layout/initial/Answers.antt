use Rattle.lists.specs.Proving.{sym}
use Rattle.block.specs.laws.ChoiceLaw.{start-waked}
use Rattle.block.proofs.layout.initial.Goals as goal

pub returns : goal.returns
returns c = start-waked _ _ _ _ c.requires (sym c.choice_at.ensures) c.wake.ensures.1
