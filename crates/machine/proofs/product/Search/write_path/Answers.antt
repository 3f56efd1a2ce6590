-- `write_path`: from the last on, the inputs after those that lead to entry i are written.
use Prim.Native.Nat.{◌<◌}
use mathlib.Core.Path.{refl, ◌∙◌}
use native.Mathlib.Omega.{arith}
use lib.ListN.{length, length-set}
use Rattle.machine.proofs.PathLaw.{written_last, written_back, written-more, written_all}
use Rattle.machine.proofs.product.Search.write_path.Goals as goal

pub depth-d-requires : goal.depth-d-requires
depth-d-requires c = (c.requires.0, (c.requires.1.0, c.requires.1.1))

pub bounds-buf-d : goal.bounds-buf-d
bounds-buf-d c = let p = c.requires.1 in
    omega (arith, c.depth-d.ensures p.0 p.1, p.2)

pub loop-n-init : goal.loop-n-init
loop-n-init c = let p = c.requires.1 in
    let low : c.depth-d.result < length c.args.buf.now = omega (arith, c.depth-d.ensures p.0 p.1, p.2) in
    (omega arith, omega arith, simp length-set low, refl, λ path p. written_last path _ _ _ c.args.buf.now (c.depth-d.ensures path p) low)

pub bounds-buf-n : goal.bounds-buf-n
bounds-buf-n c = let inv = c.loop-n.invariant in omega (arith, inv.1, inv.2, inv.3)

pub loop-n-preserved : goal.loop-n-preserved
loop-n-preserved c = let inv = c.loop-n.invariant in
    let pos = c.loop-n-test.true in
    let q = c.requires.1 in
    let back = written_back q.1 (inv.4 q.0 q.1) pos inv.0 in
    rw c.link_of-link.ensures
    (omega (arith, back, inv.0), omega arith, inv.2, length-set c.loop-n.buf _ _ ∙ inv.3, λ path p. written-more p (inv.4 path p) pos inv.0 (omega (arith, inv.1, inv.2)))

pub overflow_add-result : goal.overflow_add-result
overflow_add-result c = omega (arith, c.loop-n.invariant.2, length-set c.args.buf.now c.depth-d.result c.args.x)

pub shape_of-buf : goal.shape_of-buf
shape_of-buf c = c.loop-n.invariant.3 ∙ simp length-set

pub returns : goal.returns
returns c = λ path p.
    let e = c.depth-d.ensures path p in
    (omega (arith, e), written_all _ e (omega arith) (c.loop-n.invariant.4 path p))
