use Rattle.walks.proofs.StandLaw.{joined-has}
use Rattle.walks.proofs.steps.used_with.Goals as goal

pub returns-then-i-eq255 : goal.returns-then-i-eq255
returns-then-i-eq255 c = record { more = λ j h. h; has = λ n l. absurd (n c.if-i-eq255.true) }

pub returns : goal.returns
returns c = record { more = c.with.ensures.left; has = λ n l. joined-has l c.with.ensures }
