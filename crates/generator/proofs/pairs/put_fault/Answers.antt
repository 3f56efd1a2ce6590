-- `put_fault`: a fault is not drawn, has no other output, is one too many, or is put.
use Rattle.generator.proofs.StandingLaw.{fault-not-drawn, fault-one-output, fault-too-many, fault-put}
use Rattle.generator.proofs.pairs.put_fault.Goals as goal

pub returns-then-pair-ne0 : goal.returns-then-pair-ne0
returns-then-pair-ne0 c = let a = c.args in
    fault-not-drawn a.size a.pair.rule a.pair.lot a.standing a.table.now c.if-pair-ne0.true

pub returns-then-size-lt2 : goal.returns-then-size-lt2
returns-then-size-lt2 c = let a = c.args in
    fault-one-output a.size a.pair.rule a.pair.lot a.standing c.if-pair-ne0.false a.table.now c.if-size-lt2.true

pub returns-then-standing-ge32 : goal.returns-then-standing-ge32
returns-then-standing-ge32 c = let a = c.args in
    fault-too-many a.size a.pair.rule a.pair.lot a.standing c.if-pair-ne0.false c.if-size-lt2.false a.table.now c.if-standing-ge32.true

pub returns : goal.returns
returns c = let a = c.args in
    fault-put a.size a.pair.rule a.pair.lot a.standing c.if-pair-ne0.false c.if-size-lt2.false c.if-standing-ge32.false c.put.ensures
