use Rattle.std.proofs.Common.{◌≡◌, arith}
use Rattle.ending.proofs.EndLaw as laws
use Rattle.ending.proofs.spread.Goals as goal
use Rattle.ending.proofs.spread.Goals.{then-t-lt16, else-t-lt16}

pub loop-x-init : goal.loop-x-init
loop-x-init c = λ rules g h m. laws.spread_none rules g _ m

pub loop-x-preserved : goal.loop-x-preserved
loop-x-preserved c = elim c.if-t-lt16.branch [
  | then-t-lt16 w ↦ λ rules g h m. rw (w.seen-is, w.from.ensures) (laws.spread-hit rules g _ h (omega arith) _ (omega arith) (c.loop-x.invariant rules g h m) w.if-t-lt16.true)
  | else-t-lt16 w ↦ λ rules g h m. rw w.seen-is (laws.spread-miss rules g _ h (omega arith) _ (omega arith) (c.loop-x.invariant rules g h m) w.if-t-lt16.false)
]

pub returns : goal.returns
returns c = λ rules g h m. let e : c.loop-x.x ≡ c.args.size.inputs = omega arith in rw (← e) (c.loop-x.invariant rules g h m)
