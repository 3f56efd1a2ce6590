use Rattle.lists.specs.Proving.{arith, sym, ◌∙◌}
use Rattle.nodes.proofs.PrefixLaw.{slot-any, slot-some}
use Rattle.nodes.proofs.prefix.slot_has.Goals as goal

pub returns-then-l : goal.returns-then-l
returns-then-l c = λ e. slot-any (rw (← c.from.ensures) c.if-l.true)

pub returns-then-step-lt16 : goal.returns-then-step-lt16
returns-then-step-lt16 c =
    λ e. slot-some _ c.transition-step.result c.requires.0 c.requires.1 c.pair_of-k.ensures (sym c.site.ensures ∙ c.if-site-i.false) (rw c.from-2.ensures) (omega arith) c.transition-step.ensures (rw (← c.from.ensures) (c.means.ensures e))
