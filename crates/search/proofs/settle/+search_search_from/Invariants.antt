-- `search` and `search_from`: the choices from `from` on and below c at the next slot lead to no wanted mutant.
use Rattle.std.specs.Prelude.{◌+◌, ◌-◌, ◌*◌}
use Rattle.search.proofs.SearchLaw.{Trying}
use Rattle.search.proofs.settle.+search_search_from.Given as goal

abbrev pub decreases-search : goal.decreases-search
decreases-search l = 2 * (32 - l.i) + 1

abbrev pub decreases-search_from : goal.decreases-search_from
decreases-search_from l = 2 * (32 - l.i)

abbrev pub invariant-search_from-loop-c : goal.invariant-search_from-loop-c
invariant-search_from-loop-c l = Trying l.goal l.block l.log l.p l.i l.from l.end l.initial.store l.store l.initial.notes l.notes l.c
