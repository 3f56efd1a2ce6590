use Rattle.lists.specs.Proving.{sym, ◌∙◌}
use Rattle.cubes.specs.laws.LiteralLaw.{going-any, going-none, going-some}
use Rattle.cubes.proofs.literals.going.Goals as goal

pub returns-then-l-eq-ANY : goal.returns-then-l-eq-ANY
returns-then-l-eq-ANY c = going-any (rw (c.wide.ensures.0, c.wide-2.ensures.0))

pub returns-then-lit_out-wide : goal.returns-then-lit_out-wide
returns-then-lit_out-wide c = going-none c.if-l-eq-ANY.false (λ e. c.if-lit_out-wide.true (c.lit_out.ensures ∙ e ∙ sym c.wide-3.ensures.0))

pub returns : goal.returns
returns c =
    going-some c.if-l-eq-ANY.false (rw (c.wide.ensures.0, c.wide-2.ensures.0)) c.lit_next.ensures c.shared.ensures
