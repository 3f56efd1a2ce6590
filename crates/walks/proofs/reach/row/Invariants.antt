use Rattle.walks.specs.Reaching.{RowReached}
use Rattle.walks.proofs.reach.row.Given as goal

abbrev pub invariant-loop-x : goal.invariant-loop-x
invariant-loop-x l = RowReached l.block l.p l.initial.rows l.rows l.initial.reach l.reach l.k l.x
