-- `adds_up`: what is left is short of the sum by the lengths that are left.
use Rattle.std.proofs.Common.{◌<◌, arith, sym}
use borrow.Author.Tests.{ne_eqb}
use Rattle.writing.specs.Drawing.{total}
use Rattle.writing.proofs.RestLaw.{total-next, total-none, nothing_left}
use Rattle.writing.proofs.adds_up.Goals as goal

pub returns-in_default : goal.returns-in_default
returns-in_default c =
    let next = total-next c.args.lengths.now c.loop-n.n-index _ c.from.ensures c.loop-n-test.true in
    let short : c.loop-n.left < c.from.result = omega (arith, c.in_default.ensures) in
    sym (ne_eqb (total c.args.lengths.now) c.args.presses (λ e. omega (arith, c.loop-n.invariant)))

pub loop-n-preserved : goal.loop-n-preserved
loop-n-preserved c =
    let next = total-next c.args.lengths.now c.loop-n.n-index _ c.from.ensures c.loop-n-test.true in
    omega (arith, c.loop-n.invariant, c.in-Some.ensures)

pub returns : goal.returns
returns c = nothing_left (total c.args.lengths.now) c.loop-n.left c.args.presses
    (omega (arith, c.loop-n.invariant, total-none c.args.lengths.now c.loop-n.n-index c.loop-n-test.false))
