-- `lay`: the indices before k are laid out.
use native.Mathlib.Omega.{arith}
use lib.ListN.{length-set}
use Rattle.machine.proofs.LayLaw.{moves-none, moves_more, moves-fewer}
use Rattle.machine.proofs.laying.lay.Goals as goal

pub loop-k-init : goal.loop-k-init
loop-k-init c = (c.requires.outputs_len.0, c.requires.outputs_len.1, moves-none)

pub act-r-requires : goal.act-r-requires
act-r-requires c = (c.requires.wf.0, c.requires.wf.1, omega arith)

pub bounds-outputs-k : goal.bounds-outputs-k
bounds-outputs-k c = omega (arith, c.requires.wf.0.few-states)

pub bounds-targets-k : goal.bounds-targets-k
bounds-targets-k c = omega (arith, c.requires.wf.0.few-states)

pub loop-k-preserved : goal.loop-k-preserved
loop-k-preserved c = (simp length-set c.loop-k.invariant.0, simp length-set c.loop-k.invariant.1, moves_more c.act-r.result (omega (arith, c.requires.wf.0.few-states)) (omega (arith, c.requires.wf.0.few-states)) c.loop-k.invariant.2 c.act-r.ensures)

pub returns : goal.returns
returns c = moves-fewer (omega arith) c.loop-k.invariant.2
