-- `record_test`: the inputs before i are written.
use Rattle.std.specs.Prelude.{◌+◌, ◌*◌, ◌-◌}
use Rattle.model.specs.Log.{test_log}
use Rattle.block.specs.Tabulated.{rule_of}
use Rattle.block.specs.Logged.{log_bytes}
use Rattle.logs.specs.Tests.{inputs_at}
use Rattle.logs.proofs.RecordLaw.{Testing}
use Rattle.logs.proofs.suite.record_test.Given as goal

abbrev pub invariant-loop-i : goal.invariant-loop-i
invariant-loop-i l = Testing l.block l.sheet l.initial.log l.log l.initial.to l.to (log_bytes (test_log (rule_of l.block) 0 (inputs_at l.sheet l.start l.inputs))) l.s (l.start + 2 * l.i) (l.inputs - l.i)
