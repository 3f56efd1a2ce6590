-- `pass`: the choices after c and before d are meant.
use Rattle.clearing.proofs.AskLaw.{PassingTo}
use Rattle.clearing.proofs.ask.pass.Given as goal

abbrev pub invariant-loop-d : goal.invariant-loop-d
invariant-loop-d l = PassingTo l.block l.l l.k l.j l.c l.d
