use mathlib.Core.Path.{refl}
use native.Mathlib.Omega.{arith}
use native.Mathlib.Numerals.{add-one}
use borrow.Author.Tests.{eq-eqb, ne_eqb}
use Rattle.station.proofs.hearing.heard.Goals as goal

pub overflow_add-result : goal.overflow_add-result
overflow_add-result c = omega (arith, c.requires)

pub returns-then-output-right : goal.returns-then-output-right
returns-then-output-right c = rw (eq-eqb _ _ c.if-output-right.true, add-one) refl

pub returns-else-output-right : goal.returns-else-output-right
returns-else-output-right c = rw (ne_eqb _ _ c.if-output-right.false, c.test_of.ensures) refl
