-- `pass`: the choices after c and before d are meant.
use native.Mathlib.Omega.{arith}
use mathlib.Core.Path.{sym, ◌∙◌}
use Rattle.clearing.proofs.AskLaw.{passing-none, passed_none, passing-more, passing-less, passing-all}
use Rattle.clearing.proofs.ask.pass.Goals as goal

pub returns-then-site-j : goal.returns-then-site-j
returns-then-site-j c = passed_none

pub loop-d-init : goal.loop-d-init
loop-d-init c = passing-none (omega arith)

pub meant-requires : goal.meant-requires
meant-requires c = (c.requires.0, c.pair_of-k.ensures)

pub returns-then-not-meant : goal.returns-then-not-meant
returns-then-not-meant c = passing-all c.requires.0 c.pair_of-k.ensures c.requires.1 (sym c.site.ensures ∙ c.if-site-j.false) c.loop-d.invariant

pub loop-d-preserved : goal.loop-d-preserved
loop-d-preserved c = passing-more c.loop-d.invariant (sym c.site.ensures ∙ c.if-site-j.false) c.requires.1 (c.meant.ensures c.if-not-meant.false)

pub returns : goal.returns
returns c =
    passing-all c.requires.0 c.pair_of-k.ensures c.requires.1 (sym c.site.ensures ∙ c.if-site-j.false)
    (passing-less c.loop-d.invariant (omega (arith, c.max.ensures)) (omega (arith, c.max.ensures, c.loop-d-test.false, c.loop-d.auto.d)))
