-- `search_after`: of the mutants that have the first i choices of the one given none that stands after it is wanted.
use Rattle.search.proofs.AfterLaw.{Going}
use Rattle.search.proofs.settle.search_after.Given as goal

abbrev pub invariant-loop-i : goal.invariant-loop-i
invariant-loop-i l = Going l.goal l.block l.log l.last l.initial.store l.store l.initial.notes l.notes l.p l.i
