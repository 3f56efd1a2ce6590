use Rattle.lists.specs.Proving.{arith}
use Rattle.cursors.specs.laws.FactsKeptLaw.{kept_set}
use Rattle.cursors.proofs.observed.add_test.Goals as goal

pub returns : goal.returns
returns c = kept_set 816 _ (omega arith) c.enter_test-next.ensures.0
