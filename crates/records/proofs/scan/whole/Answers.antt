-- `whole`: the commands before `at` are whole.
use Rattle.lists.specs.Proving.{arith, refl}
use Rattle.records.proofs.AlongLaw.{commands-end, commands-broken, commands-on, commands-more}
use Rattle.records.proofs.scan.whole.Goals as goal

pub loop-at-init : goal.loop-at-init
loop-at-init c = record { inside = omega arith; is = refl }

pub returns : goal.returns
returns c = commands-end c.loop-at.invariant (omega (arith, c.loop-at-test.false))
