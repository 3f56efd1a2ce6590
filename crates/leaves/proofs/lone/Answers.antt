use Rattle.block.specs.laws.ChoiceLaw.{choice-lone}
use Rattle.leaves.proofs.lone.Goals as goal

pub returns : goal.returns
returns c =
    λ w e.
    let some = choice-lone _ _ e in
    let step = c.transition-step.ensures in
    rw (step.output w some, step.target w some) at c.packed.ensures
