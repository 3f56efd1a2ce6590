use Rattle.std.proofs.Common.{sym, ◌∙◌}
use Rattle.commands.proofs.StateLaw.{state-size, state-big}
use Rattle.commands.proofs.rules.State.set_size.Goals as goal

pub returns-then-not-is_in_range : goal.returns-then-not-is_in_range
returns-then-not-is_in_range c = λ p o h. state-big _ p h _ (sym c.is_in_range.ensures ∙ c.if-not-is_in_range.true)

pub returns : goal.returns
returns c = λ p o h. state-size _ p h _ o (sym c.is_in_range.ensures ∙ c.if-not-is_in_range.false)
