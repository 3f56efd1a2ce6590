use Rattle.lists.specs.Proving.{arith, sym, ◌∙◌, eqb-true}
use Rattle.mirror.proofs.reflection.quiet.Goals as goal

pub returns-then-i : goal.returns-then-i
returns-then-i c = λ e n. absurd (n (sym c.site-i.ensures ∙ c.if-i.true))

pub bounds-cube-wide : goal.bounds-cube-wide
bounds-cube-wide c = omega (arith, c.wide.ensures, c.site-i.ensures, c.requires.0.sites c.args.k c.requires.1 (rw c.site-i.ensures at c.if-i.false))

pub returns : goal.returns
returns c = λ e n. rw (← c.site-i.ensures, ← c.wide.ensures.0) (eqb-true _ _ e)
