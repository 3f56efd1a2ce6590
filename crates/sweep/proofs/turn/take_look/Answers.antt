-- `take_look`: by what the look tells; where p conforms, by what clears it.
use Rattle.block.specs.laws.TabledLaw.{well-formed}
use Rattle.sweep.proofs.TurnLaw.{few-full, blames-refutes}
use Rattle.sweep.proofs.turn.take_look.Goals as goal

pub choices_at-requires : goal.choices_at-requires
choices_at-requires c = let pre = c.requires in
    few-full (well-formed pre.full.0.1.tabled) pre.full.1

pub conformed-requires : goal.conformed-requires
conformed-requires c = let pre = c.requires in
    (well-formed pre.full.0.1.tabled, pre.ready.0, pre.ready.1, pre.full.1)

pub returns-in-Fails : goal.returns-in-Fails
returns-in-Fails c = let pre = c.requires in record { turned_ok = λ sh f. rw c.choices_at.ensures.0 (blames-refutes (rw c.in-Fails.is at (c.look.ensures sh f)) c.choices_at.ensures.1); store_ok = pre.ready.1 }

pub returns-in-Conforms : goal.returns-in-Conforms
returns-in-Conforms c = let told = c.conformed.ensures in record { turned_ok = λ sh f. told.1.at sh f (rw c.in-Conforms.is at (c.look.ensures sh f)); store_ok = told.0 }
