use Rattle.lists.specs.Proving.{arith, sym, ◌∙◌}
use Rattle.cubes.specs.laws.FreeLaw.{pair-none, pair-more, pair-skip, pair-not, pair-all}
use Rattle.cubes.proofs.tables.enter_pair.Goals as goal

pub returns-then-i : goal.returns-then-i
returns-then-i c = pair-skip (sym c.site-i.ensures ∙ c.if-i.true)

pub choices-end-requires : goal.choices-end-requires
choices-end-requires c = omega (arith, c.site-i.ensures, c.requires.0.sites c.args.k c.requires.1 (rw c.site-i.ensures at c.if-i.false))

pub loop-c-init : goal.loop-c-init
loop-c-init c = pair-none

pub enter-requires : goal.enter-requires
enter-requires c =
    let i = c.site-i.ensures in
    (c.requires.0, c.requires.1, i, omega (arith, i, c.requires.0.sites c.args.k c.requires.1 (rw i at c.if-i.false)), rw c.choices-end.ensures at c.loop-c-test.true, c.loop-c.invariant.grows.long ∙ c.requires.2)

pub returns-then-not-enter : goal.returns-then-not-enter
returns-then-not-enter c = pair-not _ c.loop-c.invariant c.enter.ensures

pub loop-c-preserved : goal.loop-c-preserved
loop-c-preserved c = pair-more _ c.loop-c.invariant c.enter.ensures c.if-not-enter.false

pub returns : goal.returns
returns c = pair-all c.loop-c.invariant c.site-i.ensures (rw c.choices-end.ensures at c.loop-c-test.false)
