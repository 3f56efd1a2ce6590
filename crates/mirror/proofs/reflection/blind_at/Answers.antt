use Rattle.lists.specs.Proving.{◌∙◌}
use Rattle.mirror.proofs.reflection.blind_at.Goals as goal

pub returns-then-j-wide : goal.returns-then-j-wide
returns-then-j-wide c = λ e n. absurd (n (c.if-j-wide.true ∙ c.wide.ensures.0))

pub returns : goal.returns
returns c = λ e n. c.blind.ensures e
