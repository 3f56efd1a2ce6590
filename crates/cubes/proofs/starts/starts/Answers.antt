use Rattle.cubes.specs.laws.StartsLaw.{starts-lone, starts-freed}
use Rattle.cubes.proofs.starts.starts.Goals as goal

pub returns-then-i-ge32 : goal.returns-then-i-ge32
returns-then-i-ge32 c =
    λ gi. starts-lone gi.wf c.site-i.ensures c.if-i-ge32.true c.transition.ensures c.one.ensures

pub returns : goal.returns
returns c =
    λ gi. starts-freed gi c.site-i.ensures c.if-i-ge32.false (rw c.wide.ensures.0) c.going.ensures
