-- `depth`: what is counted and the inputs that lead to entry i are those that lead to entry h.
use native.Mathlib.Omega.{arith}
use Rattle.machine.proofs.PathLaw.{path-longer, path-none}
use Rattle.machine.proofs.product.Search.depth.Goals as goal

pub loop-i-init : goal.loop-i-init
loop-i-init c = (omega arith, λ path p. omega arith)

pub loop-i-smaller : goal.loop-i-smaller
loop-i-smaller c = rw c.link_of-i.ensures (c.requires.1.1.back c.loop-i.i c.loop-i-test.true (omega (arith, c.loop-i.invariant.0)))

pub loop-i-preserved : goal.loop-i-preserved
loop-i-preserved c = let i = c.loop-i.i in
    let inv = c.loop-i.invariant in
    let less = c.requires.1.1.back c.loop-i.i c.loop-i-test.true (omega (arith, c.loop-i.invariant.0)) in
    let pos = c.loop-i-test.true in
    (omega (arith, inv.0), λ path p. rw c.link_of-i.ensures (omega (arith, inv.1 path p, path-longer p i pos (omega (arith, inv.0)))))

pub returns : goal.returns
returns c = λ path p. omega (arith, c.loop-i.invariant.1 path p, path-none p c.loop-i.i (omega arith))
