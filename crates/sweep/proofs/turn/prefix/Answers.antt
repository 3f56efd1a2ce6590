-- `prefix`: the choices that are settled are p's.
use borrow.Author.Rules.{rules}
use native.Mathlib.Omega.{arith}
use Rattle.sweep.proofs.TurnLaw.{prefixed}
use Rattle.sweep.proofs.turn.prefix.Goals as goal

pub returns : goal.returns
returns c = prefixed _ _ _ c.requires (omega (arith, c.min.ensures)) (c.fill.ensures.after (search rules))
