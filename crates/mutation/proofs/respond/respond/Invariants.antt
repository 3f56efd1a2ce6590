-- `respond`: the outputs of the inputs before i are written, and the slots they use are marked.
use Rattle.mutation.proofs.RespondLaw.{Responding}
use Rattle.mutation.proofs.respond.respond.Given as goal

abbrev pub invariant-loop-i : goal.invariant-loop-i
invariant-loop-i l = Responding l.block l.machine.output l.machine.target l.machine.start l.inputs l.initial.buffer l.buffer l.used l.s l.i
