-- `refute`: none of the mutants whose choice at the suspect is below c is sought.
use Rattle.walks.proofs.SplitLaw.{Trying}
use Rattle.walks.proofs.refute.+refute.Given as goal

abbrev pub invariant-loop-c : goal.invariant-loop-c
invariant-loop-c l = Trying l.goal l.block l.log l.p l.q l.i l.left l.end l.place l.c l.used

abbrev pub decreases-refute : goal.decreases-refute
decreases-refute l = l.left
