-- `settled_as`: the choices before j are settled.
use Rattle.search.proofs.AfterLaw.{FilledTo}
use Rattle.search.proofs.settle.settled_as.Given as goal

abbrev pub invariant-loop-j : goal.invariant-loop-j
invariant-loop-j l = FilledTo l.last l.p l.j
