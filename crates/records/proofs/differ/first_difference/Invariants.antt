-- `first_difference`: the bytes before `at` have no difference.
use Rattle.block.specs.Tabulated.{rule_of}
use Rattle.records.proofs.AlongLaw.{Compared}
use Rattle.records.proofs.differ.first_difference.Given as goal

abbrev pub invariant-loop-at : goal.invariant-loop-at
invariant-loop-at l = Compared (rule_of l.block) l.log l.state l.at
