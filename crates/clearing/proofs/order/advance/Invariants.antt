-- `advance`: the slots above the highest of the set have no choice left.
use Rattle.clearing.proofs.OrderLaw.{Advancing}
use Rattle.clearing.proofs.order.advance.Given as goal

abbrev pub invariant-loop-clearing : goal.invariant-loop-clearing
invariant-loop-clearing l = Advancing l.block l.initial.p l.initial.blame l.initial.clearing.by l.initial.clearing.next l.p l.blame l.clearing.by l.clearing.next

abbrev pub decreases-loop-clearing : goal.decreases-loop-clearing
decreases-loop-clearing l = l.clearing.by
