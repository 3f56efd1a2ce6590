-- `record_suite`: the tests before t are written.
use Rattle.logs.proofs.RecordLaw.{Suiting}
use Rattle.logs.proofs.suite.record_suite.Given as goal

abbrev pub invariant-loop-t : goal.invariant-loop-t
invariant-loop-t l = Suiting l.loaded.block l.loaded.sheet.now l.loaded.starts l.loaded.lengths l.initial.log l.log l.loaded.size.tests l.to l.t
