use Rattle.lists.specs.Proving.{eqb-true}
use Rattle.walks.proofs.begins.Goals as goal

pub returns : goal.returns
returns c = λ e. record { at = λ l. eqb-true _ _ e }
