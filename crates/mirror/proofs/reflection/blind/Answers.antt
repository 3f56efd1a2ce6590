use Rattle.mirror.proofs.ReflectLaw.{blind-any, blind-same}
use Rattle.mirror.proofs.reflection.blind.Goals as goal

pub returns-then-l-eq-ANY : goal.returns-then-l-eq-ANY
returns-then-l-eq-ANY c = λ e. blind-any c.if-l-eq-ANY.true

pub returns : goal.returns
returns c = blind-same c.holds.result c.holds-2.result c.lit_next-set.ensures c.if-l-eq-ANY.false (c.holds.ensures.exact c.requires.0) (c.holds-2.ensures.exact c.requires.1)
