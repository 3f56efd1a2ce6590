use Rattle.lists.specs.Proving.{sym, ◌∙◌, eqb-true, never}
use Rattle.mirror.proofs.exchange.is_free.Goals as goal

pub returns-then-site : goal.returns-then-site
returns-then-site c = λ e. never cc

pub returns : goal.returns
returns c =
    λ e. (sym c.rule_target.ensures ∙ eqb-true c.rule_target.result 255 e, λ z. c.if-site.false (c.site.ensures ∙ z))
