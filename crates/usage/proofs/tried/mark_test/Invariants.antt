-- `mark_test`: the inputs before i are marked.
use Rattle.std.specs.Prelude.{◌+◌, ◌*◌, ◌-◌}
use Rattle.model.specs.Used.{mark_from}
use Rattle.logs.specs.Tests.{inputs_at}
use Rattle.usage.specs.Marks.{acts_in}
use Rattle.usage.proofs.TriedLaw.{Marking}
use Rattle.usage.proofs.tried.mark_test.Given as goal

abbrev pub invariant-loop-i : goal.invariant-loop-i
invariant-loop-i l = Marking l.loaded.block l.targets l.loaded.sheet.now (mark_from (acts_in l.loaded.block l.targets) l.set l.initial' (inputs_at l.loaded.sheet.now l.start l.inputs)) l.used l.s (l.start + 2 * l.i) (l.inputs - l.i)
