use Rattle.cubes.specs.laws.JoinLaw.{note-none, note-some}
use Rattle.cubes.proofs.gather.note.Goals as goal

pub returns-then-o-lt16 : goal.returns-then-o-lt16
returns-then-o-lt16 c = note-some c.lit_out-o.result c.lit_next.result c.union.result c.requires c.lit_out-o.ensures c.if-o-lt16.true c.lit_next.ensures c.union.ensures

pub returns-else-o-lt16 : goal.returns-else-o-lt16
returns-else-o-lt16 c = note-none c.lit_out-o.result c.requires c.lit_out-o.ensures c.if-o-lt16.false
