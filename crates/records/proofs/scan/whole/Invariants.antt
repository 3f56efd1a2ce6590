-- `whole`: the commands before `at` are whole.
use Rattle.std.specs.Prelude.{◌-◌}
use Rattle.lists.specs.Proving.{length}
use Rattle.records.proofs.AlongLaw.{Commands}
use Rattle.records.proofs.scan.whole.Given as goal

abbrev pub invariant-loop-at : goal.invariant-loop-at
invariant-loop-at l = Commands l.inputs l.outputs l.log l.at l.pulsed

abbrev pub decreases-loop-at : goal.decreases-loop-at
decreases-loop-at l = length l.log - l.at
