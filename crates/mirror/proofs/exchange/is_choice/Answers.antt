use Rattle.lists.specs.Proving.{eqb-true, never}
use Rattle.mirror.proofs.ExchangeLaw.{offers}
use Rattle.mirror.proofs.exchange.is_choice.Goals as goal

pub returns-then-step-o : goal.returns-then-step-o
returns-then-step-o c = λ e. never cc

pub returns : goal.returns
returns c = λ e. offers c.requires.0 c.requires.2 c.transition-step.ensures c.if-step-o.false (eqb-true _ _ e)
