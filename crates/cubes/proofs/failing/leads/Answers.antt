use Rattle.lists.specs.Proving.{arith, sym, ◌∙◌}
use Rattle.cubes.specs.laws.WalkLaw.{lead-not, lead-lone, lead-freed}
use Rattle.cubes.proofs.failing.leads.Goals as goal

pub returns-then-not-holds : goal.returns-then-not-holds
returns-then-not-holds c = lead-not ((c.holds.ensures.exact (omega (arith, c.requires.1, c.requires.0.wf.few-states))).1 c.if-not-holds.true)

pub returns-then-i : goal.returns-then-i
returns-then-i c =
    lead-lone c.place-at.result c.requires.1 c.requires.2 c.place-at.ensures.0 (sym c.site-i.ensures ∙ c.if-i.true) c.lone_lead.ensures

pub bounds-cube-wide : goal.bounds-cube-wide
bounds-cube-wide c =
    omega (arith, c.wide.ensures, c.site-i.ensures, c.requires.0.wf.sites c.place-at.result (omega (arith, c.place-at.ensures.1)) (rw c.site-i.ensures at c.if-i.false))

pub going-requires : goal.going-requires
going-requires c =
    (omega (arith, c.site-i.ensures, c.requires.0.wf.sites c.place-at.result (omega (arith, c.place-at.ensures.1)) (rw c.site-i.ensures at c.if-i.false)), c.requires.3)

pub returns : goal.returns
returns c =
    lead-freed c.place-at.result c.requires.0 c.requires.1 c.requires.2 c.place-at.ensures.0 c.site-i.ensures (rw c.site-i.ensures at c.if-i.false) (rw c.wide.ensures.0) c.going.ensures
