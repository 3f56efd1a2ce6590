use Rattle.lists.specs.Proving.{arith, sym}
use Rattle.block.specs.laws.ChoiceLaw.{chosen_none, chosen-some}
use Rattle.block.proofs.layout.choice_at.Goals as goal

pub returns-then-i : goal.returns-then-i
returns-then-i c = sym (chosen_none _ _ _ (rw c.site-i.ensures at c.if-i.true))

pub bounds-p-from : goal.bounds-p-from
bounds-p-from c =
    omega (arith, c.site-i.ensures, c.requires.0.sites c.args.k c.requires.1 (rw c.site-i.ensures at c.if-i.false))

pub returns : goal.returns
returns c =
    rw (c.from.ensures, c.site-i.ensures) (sym (chosen-some _ _ _ (rw c.site-i.ensures at c.if-i.false)))
