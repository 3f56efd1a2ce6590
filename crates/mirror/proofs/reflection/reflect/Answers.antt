use Rattle.lists.specs.Proving.{arith}
use Rattle.mirror.proofs.ReflectLaw.{reflect-some}
use Rattle.mirror.proofs.reflection.reflect.Goals as goal

pub bounds-cube-wide : goal.bounds-cube-wide
bounds-cube-wide c =
    omega (arith, c.wide-2.ensures, c.site-i.ensures, c.requires.0.sites c.args.k c.requires.2 c.requires.3)

pub images-requires : goal.images-requires
images-requires c =
    (c.requires.0, rw c.wide.ensures.0 (c.requires.1.at c.args.a (omega (arith, c.if-a-ge16.false))), omega (arith, c.if-a-ge16.false))

pub returns : goal.returns
returns c =
    reflect-some c.requires.0 c.requires.2 c.requires.3 c.site-i.ensures (rw c.wide-2.ensures.0 at (c.means.ensures c.if-not-means.false)) (c.silent.ensures c.if-not-silent.false) c.images.ensures (λ e. omega (arith, e, c.literal.ensures.1)) (omega (arith, c.literal.ensures.0, c.if-o-ge16.false)) (omega (arith, c.literal.ensures.0)) c.note.ensures
