-- `append`: the test in the bytes, then in the log.
use Rattle.making.proofs.AppendLaw.{spell-asks, test_at, log-room, appended}
use Rattle.making.proofs.append.append.Goals as goal

pub test-requires : goal.test-requires
test-requires c = spell-asks c.requires.1 c.requires.2

pub record_test-requires : goal.record_test-requires
record_test-requires c = record { test_at = test_at c.requires.1 c.requires.2 c.test.ensures; inputs_in_bounds = log-room c.requires.1 c.requires.2 c.test.ensures }

pub returns : goal.returns
returns c = λ sh he fi. appended he fi c.test.ensures c.record_test.ensures
