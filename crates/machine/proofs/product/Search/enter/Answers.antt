-- `enter`: by what the link leads to; there is room for a pair that was not seen.
use native.Mathlib.Omega.{arith}
use Rattle.machine.proofs.TreeLaw.{room-one, entered-none, entered-old, entered-new}
use Rattle.machine.proofs.product.Search.enter.Goals as goal

pub returns-in_default : goal.returns-in_default
returns-in_default c = entered-none c.in_default.not-To

pub returns-then-self-i-ne0 : goal.returns-then-self-i-ne0
returns-then-self-i-ne0 c = entered-old c.in-To.is c.from-i.ensures c.if-self-i-ne0.true

pub bounds-self-self : goal.bounds-self-self
bounds-self-self c = room-one c.requires.0 (omega arith) c.if-self-i-ne0.false

pub returns : goal.returns
returns c = entered-new c.in-To.is c.from-i.ensures c.if-self-i-ne0.false
