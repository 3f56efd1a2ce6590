use Rattle.std.specs.Prelude.{◌%◌}
use Rattle.lists.specs.Proving.{sym, ◌∙◌, eqb-true, never}
use Rattle.mirror.proofs.exchange.unruled_alike.Goals as goal

pub returns-then-c-choices_at : goal.returns-then-c-choices_at
returns-then-c-choices_at c = λ e. never cc

pub returns : goal.returns
returns c = λ e. (sym c.choices_at-c.ensures ∙ c.if-c-choices_at.false ∙ c.choices_at.ensures, rw (c.choices_at-c.ensures, c.from.ensures, c.states.ensures) at (eqb-true (c.choices_at-c.result % c.from.result) 0 e))
