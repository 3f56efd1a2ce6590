use Rattle.lists.specs.Proving.{refl, not-true, not-false, eqb-true, eqb-false}
use Rattle.lists.specs.laws.TestLaw.{clash}
use Rattle.leaves.proofs.notes.clash.Goals as goal

pub returns-then-c-eq256 : goal.returns-then-c-eq256
returns-then-c-eq256 c = (λ e. clash _ e refl, λ e k. k.0 c.if-c-eq256.true)

pub returns-then-d-eq256 : goal.returns-then-d-eq256
returns-then-d-eq256 c = (λ e. clash _ e refl, λ e k. k.1 c.if-d-eq256.true)

pub returns : goal.returns
returns c = (λ e. (c.if-c-eq256.false, c.if-d-eq256.false, eqb-false _ _ (not-true _ e)), λ e k. k.2 (eqb-true _ _ (not-false _ e)))
