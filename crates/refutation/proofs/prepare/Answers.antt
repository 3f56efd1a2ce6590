use Rattle.lists.specs.Proving.{refl}
use Rattle.lists.specs.laws.TestLaw.{clash}
use Rattle.refutation.proofs.FactsLaw.{prepared}
use Rattle.refutation.proofs.prepare.Goals as goal

pub returns-then-not-enter_all : goal.returns-then-not-enter_all
returns-then-not-enter_all c = (c.enter_all.ensures.long, λ e. clash _ e refl)

pub exchange_all-requires : goal.exchange_all-requires
exchange_all-requires c =
    let entered = c.enter_all.ensures in
    (record { wf = c.requires.0; tables = entered.has c.if-not-enter_all.false }, entered.long)

pub returns : goal.returns
returns c =
    (c.find_tests.ensures.long, λ e. prepared c.requires.0 (c.enter_all.ensures.has c.if-not-enter_all.false) c.exchange_all.ensures c.find_tests.ensures)
