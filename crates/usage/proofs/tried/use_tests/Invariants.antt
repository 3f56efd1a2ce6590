-- `use_tests`: the tests before t are marked.
use Rattle.model.specs.Used.{mark, mark_all}
use Rattle.logs.specs.Tests.{tests_at}
use Rattle.usage.specs.Marks.{start_slot_of, acts_in}
use Rattle.usage.proofs.TriedLaw.{MarkingTests}
use Rattle.usage.proofs.tried.use_tests.Given as goal

abbrev pub invariant-loop-t : goal.invariant-loop-t
invariant-loop-t l = MarkingTests l.loaded.block l.targets l.loaded.sheet.now l.loaded.starts l.loaded.lengths l.initial' (mark_all (acts_in l.loaded.block l.targets) l.initial' (mark 0 (start_slot_of l.loaded.block)) (tests_at l.loaded.sheet.now l.loaded.starts l.loaded.lengths l.tests)) l.used l.tests l.t
