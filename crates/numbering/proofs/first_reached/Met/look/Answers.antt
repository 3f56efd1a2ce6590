use Rattle.renaming.specs.Renaming.{met_by}
use Rattle.renaming.proofs.laws.MetLaw.{met-states}
use Rattle.numbering.proofs.SearchLaw.{look-state, look-met, look-past}
use Rattle.numbering.proofs.first_reached.Met.look.Goals as goal

pub meet_from-requires : goal.meet_from-requires
meet_from-requires c = let p = c.requires in
    let i = c.args.i in
    (p.0, met_by p.0 i, p.1, look-state p.1 i p.2 c.if-i-self.true, met-states p.0 p.1.formed i, p.2)

pub returns-then-i-self : goal.returns-then-i-self
returns-then-i-self c = let i = c.args.i in
    λ sh h m. look-met h i m c.if-i-self.true (c.meet_from.ensures sh (met_by sh i) h (look-state h i m c.if-i-self.true) (met-states sh h.formed i) m)

pub returns-else-i-self : goal.returns-else-i-self
returns-else-i-self c = λ sh h m. look-past h c.args.i m c.if-i-self.false
