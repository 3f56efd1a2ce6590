use Rattle.lists.specs.Proving.{arith, refl}
use Rattle.lists.specs.laws.TestLaw.{clash}
use Rattle.walks.proofs.effort.spent.Goals as goal

pub returns-then-notes-le-SPENT : goal.returns-then-notes-le-SPENT
returns-then-notes-le-SPENT c = (λ e. clash _ refl e, λ e l. absurd (omega arith))
