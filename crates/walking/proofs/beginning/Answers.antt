-- `beginning`: of the last mutant alone.
use Rattle.std.proofs.Common.{rules, refl, sym, ◌∙◌}
use Rattle.std.specs.Prelude.{Err}
use Rattle.walking.proofs.TakingLaw.{begins-after, begins-nowhere}
use Rattle.walking.proofs.beginning.Goals as goal

pub returns-in-Err : goal.returns-in-Err
returns-in-Err c = λ sh tb. rw c.in-Last.is (begins-nowhere sh _ (sym (c.fits.ensures sh tb) ∙ c.in-Err.is) {r = Err _} (search rules))

pub returns-in_default : goal.returns-in_default
returns-in_default c = λ sh tb. rw c.in-Last.is (refl, begins-after sh _ (sym c.in_default.is ∙ c.fits.ensures sh tb))
