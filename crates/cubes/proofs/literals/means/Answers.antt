use Rattle.lists.specs.Proving.{sym, ◌∙◌, never}
use Rattle.cubes.specs.laws.LiteralLaw.{meaning, any-means}
use Rattle.cubes.proofs.literals.means.Goals as goal

pub returns-then-l-eq-ANY : goal.returns-then-l-eq-ANY
returns-then-l-eq-ANY c = λ e. any-means _ _ c.if-l-eq-ANY.true

pub returns-then-lit_out-wide : goal.returns-then-lit_out-wide
returns-then-lit_out-wide c = λ e. never cc

pub returns : goal.returns
returns c = λ e. meaning _ _ (sym c.lit_out.ensures ∙ c.if-lit_out-wide.false ∙ c.wide.ensures.0) (rw c.lit_next.ensures at ((c.holds.ensures.exact c.requires).0 e))
