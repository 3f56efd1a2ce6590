use Rattle.std.specs.Prelude.{◌+◌}
use Rattle.lists.specs.Proving.{sym, ◌∙◌, get_or, eqb-true}
use Rattle.cubes.specs.laws.LiteralLaw.{sounds-any, sounds-some}
use Rattle.cubes.proofs.literals.sounds.Goals as goal

pub returns-then-l-eq-ANY : goal.returns-then-l-eq-ANY
returns-then-l-eq-ANY c = λ e. sounds-any (rw (c.wide.ensures.0, c.one.ensures) at (eqb-true (get_or c.args.facts.now (512 + c.wide.result) 0) c.one.result e))

pub returns : goal.returns
returns c = λ e. sounds-some c.if-l-eq-ANY.false (sym c.lit_out.ensures ∙ eqb-true _ _ e ∙ c.wide-2.ensures.0)
