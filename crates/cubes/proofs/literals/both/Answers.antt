use Rattle.lists.specs.Proving.{arith, sym, ◌∙◌}
use Rattle.cubes.specs.laws.LiteralLaw.{both_left, both_right, both-none, both_some}
use Rattle.cubes.proofs.literals.both.Goals as goal

pub returns-then-a-eq-ANY : goal.returns-then-a-eq-ANY
returns-then-a-eq-ANY c = both_left c.if-a-eq-ANY.true

pub returns-then-b-eq-ANY : goal.returns-then-b-eq-ANY
returns-then-b-eq-ANY c = both_right c.if-b-eq-ANY.true

pub returns-then-lit_out : goal.returns-then-lit_out
returns-then-lit_out c = both-none

pub returns : goal.returns
returns c = both_some c.if-a-eq-ANY.false (omega (arith, c.ranges.a)) (sym c.lit_out.ensures ∙ c.if-lit_out.false ∙ c.lit_out-2.ensures)
