-- `spoken`: the set has the slots before j.
use Rattle.clearing.specs.Asking.{Speaks}
use Rattle.clearing.proofs.ask.spoken.Given as goal

abbrev pub invariant-loop-j : goal.invariant-loop-j
invariant-loop-j l = Speaks l.cube l.set l.j
