-- `put_pairs`: the rows of the first i pairs stand in the tables.
use Rattle.std.proofs.Common.{◌≡◌}
use Rattle.generator.specs.Generating.{drafted}
use Rattle.generator.specs.words.Standing.{Standing}
use Rattle.generator.proofs.pairs.put_pairs.Given as goal

abbrev pub invariant-loop-i : goal.invariant-loop-i
invariant-loop-i l = (l.draws.seed ≡ (drafted l.size l.seed l.i).seed) × Standing (drafted l.size l.seed l.i) l.i l.standing l.initial.rules l.rules l.initial.faults l.faults
