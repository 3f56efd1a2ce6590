-- `spoken`: the set has the slots before j.
use native.Mathlib.Omega.{arith}
use mathlib.Core.Path.{refl}
use Rattle.clearing.proofs.AskLaw.{speaks-none, speaks_more, speaks-all}
use Rattle.clearing.proofs.ask.spoken.Goals as goal

pub loop-j-init : goal.loop-j-init
loop-j-init c = speaks-none

pub loop-j-preserved : goal.loop-j-preserved
loop-j-preserved c = speaks_more refl refl c.loop-j.invariant c.with_spoken-set.ensures

pub returns : goal.returns
returns c = speaks-all c.loop-j.invariant (omega arith)
