-- `first_high`: each choice before i is in range.
use Prim.Native.Nat.{ℕ, ◌<◌}
use lib.ListN.{get_or}
use Rattle.block.specs.Layout.{choices_of}
use Rattle.machine.proofs.fitting.first_high.Given as goal

abbrev pub invariant-loop-i : goal.invariant-loop-i
invariant-loop-i l = (j : ℕ) → j < l.i → get_or l.mutant j 0 < choices_of l.block j
