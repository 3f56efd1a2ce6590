-- `first_over`: each input before i is below k.
use Rattle.std.specs.Prelude.{ℕ, ◌<◌, get_or}
use Rattle.mutation.proofs.respond.first_over.Given as goal

abbrev pub invariant-loop-i : goal.invariant-loop-i
invariant-loop-i l = (j : ℕ) → j < l.i → get_or l.inputs j 0 < l.k
