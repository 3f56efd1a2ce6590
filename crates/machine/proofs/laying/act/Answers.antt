use Rattle.machine.proofs.LayLaw.{acts-outside, acts-inside}
use native.Mathlib.Omega.{arith}
use Rattle.machine.proofs.laying.act.Goals as goal

pub returns-then-k-from : goal.returns-then-k-from
returns-then-k-from c = acts-outside _ _ _ (omega (arith, c.if-k-from.true, c.from.ensures, c.inputs.ensures))

pub returns : goal.returns
returns c = acts-inside _ _ c.args.k c.choice_at-c.result _ c.requires.0 c.requires.1 c.requires.2 (omega (arith, c.if-k-from.false, c.from.ensures, c.inputs.ensures)) c.choice_at-c.ensures c.transition.ensures
