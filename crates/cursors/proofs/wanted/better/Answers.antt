use Rattle.lists.specs.Proving.{refl, inl, inr}
use Rattle.cursors.proofs.wanted.better.Goals as goal

pub returns-then-tests-eq0 : goal.returns-then-tests-eq0
returns-then-tests-eq0 c = inl refl

pub returns-then-times : goal.returns-then-times
returns-then-times c = inl refl

pub returns-else-times : goal.returns-else-times
returns-else-times c = inr (refl, c.if-tests-eq0.false)

pub returns-else-best-ne255 : goal.returns-else-best-ne255
returns-else-best-ne255 c = inr (refl, c.if-tests-eq0.false)
