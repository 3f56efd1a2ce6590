use Rattle.lists.specs.Proving.{never}
use Rattle.cubes.specs.laws.LiteralLaw.{freed-all}
use Rattle.cubes.proofs.conform.freed.Goals as goal

pub returns-then-o-ge16 : goal.returns-then-o-ge16
returns-then-o-ge16 c = λ e. never cc

pub returns-then-not-sounds : goal.returns-then-not-sounds
returns-then-not-sounds c = λ e. never cc

pub returns : goal.returns
returns c = λ e. freed-all (c.sounds.ensures c.if-not-sounds.false) c.going.ensures (c.within.ensures e)
