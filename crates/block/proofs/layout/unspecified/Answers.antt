use Rattle.lists.specs.Proving.{sym, ◌∙◌}
use Rattle.block.specs.laws.ChoiceLaw.{is-staying, is-unruled}
use Rattle.block.proofs.layout.unspecified.Goals as goal

pub returns-then-site : goal.returns-then-site
returns-then-site c =
    λ e. is-staying c.args.k c.args.c c.stay.result c.requires e (sym c.site.ensures ∙ c.if-site.true) c.stay.ensures.0 (rw c.states.ensures at c.stay.ensures.1)

pub returns : goal.returns
returns c =
    λ e. is-unruled c.args.k c.args.c c.states-2.result c.unruled.result c.requires e (λ z. c.if-site.false (c.site.ensures ∙ z)) c.states-2.ensures c.unruled.ensures
