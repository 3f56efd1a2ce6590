use mathlib.Core.Path.{sym, ◌∙◌}
use Rattle.station.proofs.PartsLaw.{span-at}
use Rattle.lists.specs.laws.TestLaw.{never}
use Rattle.station.proofs.agree.span_of.Goals as goal

pub returns-in_default : goal.returns-in_default
returns-in_default c = λ sh h. let z = sym c.in_default.is ∙ span-at c.args.i h c.test_span.ensures in never (cc)

pub returns : goal.returns
returns c = λ sh h. let z = sym c.in-Ok.is ∙ span-at c.args.i h c.test_span.ensures in cc
