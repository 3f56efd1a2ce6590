use Rattle.std.specs.Prelude.{◌≤◌}
use Rattle.cursors.specs.FactsKept.{FactsKept}
use Rattle.cursors.proofs.observed.find_tests.Given as goal

abbrev pub invariant-loop-at : goal.invariant-loop-at
invariant-loop-at l = FactsKept l.initial.facts l.facts × (l.tests ≤ 256)
