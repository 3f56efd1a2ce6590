use Rattle.lists.specs.Proving.{sym}
use Rattle.mirror.proofs.OtherLaw.{other-first, other-second, other-rest}
use Rattle.mirror.proofs.exchange.other.Goals as goal

pub returns-then-s-a : goal.returns-then-s-a
returns-then-s-a c = sym (other-first _ _ _ c.if-s-a.true)

pub returns-then-s-b : goal.returns-then-s-b
returns-then-s-b c = sym (other-second _ _ _ c.if-s-a.false c.if-s-b.true)

pub returns : goal.returns
returns c = sym (other-rest _ _ _ c.if-s-a.false c.if-s-b.false)
