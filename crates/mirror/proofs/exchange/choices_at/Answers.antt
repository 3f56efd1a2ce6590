use Rattle.lists.specs.Proving.{arith, sym, ◌∙◌}
use Rattle.block.specs.laws.ChoiceLaw.{choices-none, choices-some}
use Rattle.mirror.proofs.exchange.choices_at.Goals as goal

pub returns-then-i : goal.returns-then-i
returns-then-i c = sym (choices-none _ _ (sym c.site-i.ensures ∙ c.if-i.true))

pub choices-requires : goal.choices-requires
choices-requires c = omega (arith, c.site-i.ensures, c.requires.0.sites c.args.k c.requires.1 (rw c.site-i.ensures at c.if-i.false))

pub returns : goal.returns
returns c = rw (choices-some _ _ (rw c.site-i.ensures at c.if-i.false), ← c.site-i.ensures) c.choices.ensures
