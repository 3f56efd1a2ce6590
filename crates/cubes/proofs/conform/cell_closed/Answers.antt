use Rattle.lists.specs.Proving.{arith, sym, ◌∙◌}
use Rattle.cubes.specs.laws.ConformLaw.{cell-none, cell-lone, cell-freed}
use Rattle.cubes.proofs.conform.cell_closed.Goals as goal

pub returns-then-next : goal.returns-then-next
returns-then-next c = λ e. cell-none (rw (c.rule_target-next.ensures, c.place-k.ensures.0) at c.if-next.true)

pub bounds-pairs-wide : goal.bounds-pairs-wide
bounds-pairs-wide c = omega (arith, c.wide.ensures, c.rule_target-next.ensures, c.requires.0.wf.few-states, c.requires.0.wf.rules c.place-k.result c.place-k.ensures.1 (rw c.rule_target-next.ensures at c.if-next.false))

pub returns-then-i : goal.returns-then-i
returns-then-i c =
    λ e. cell-lone c.place-at.result c.requires.2 c.requires.3 c.place-at.ensures.0 (sym c.site-i.ensures ∙ c.if-i.true) (rw (c.rule_output-o.ensures, c.place-k.ensures.0)) (rw (c.wide.ensures.0, c.rule_target-next.ensures, c.place-k.ensures.0)) (c.lone.ensures e)

pub bounds-cube-wide : goal.bounds-cube-wide
bounds-cube-wide c =
    omega (arith, c.wide-2.ensures, c.site-i.ensures, c.requires.0.wf.sites c.place-at.result (omega (arith, c.place-at.ensures.1)) (rw c.site-i.ensures at c.if-i.false))

pub freed-requires : goal.freed-requires
freed-requires c =
    omega (arith, c.wide-2.ensures, c.site-i.ensures, c.requires.0.wf.sites c.place-at.result (omega (arith, c.place-at.ensures.1)) (rw c.site-i.ensures at c.if-i.false))

pub returns : goal.returns
returns c =
    λ e. cell-freed c.place-at.result c.requires.0 c.requires.2 c.requires.3 c.place-at.ensures.0 c.site-i.ensures (rw c.site-i.ensures at c.if-i.false) (rw c.wide-2.ensures.0) (rw (c.rule_output-o.ensures, c.place-k.ensures.0)) (rw (c.wide.ensures.0, c.rule_target-next.ensures, c.place-k.ensures.0)) (c.freed.ensures e)
