use Rattle.lists.specs.Proving.{refl}
use Rattle.lists.specs.laws.TestLaw.{clash}
use Rattle.walks.proofs.blame.gives_from.Goals as goal

pub returns-in-Ends : goal.returns-in-Ends
returns-in-Ends c = λ e. rw c.in-Ends.is at c.walk_from.ensures.1

pub returns-in_default : goal.returns-in_default
returns-in_default c = λ e. clash _ e refl
