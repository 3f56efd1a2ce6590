-- `number`: what holds after the pairs before an index.
use Rattle.block.specs.Sites.{waking_first}
use Rattle.block.proofs.SitesLaw.{Numbering}
use Rattle.block.proofs.sites.number.Given as goal

abbrev pub invariant-loop-i : goal.invariant-loop-i
invariant-loop-i l = Numbering (waking_first l.waking) l.n l.k l.choices l.site l.slots l.count l.i
