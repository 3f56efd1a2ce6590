use Rattle.lists.specs.Proving.{sym, ◌∙◌, never}
use Rattle.walks.proofs.StandLaw.{stands-start}
use Rattle.walks.proofs.SplitLaw.{none-told}
use Rattle.walks.proofs.none_from.Goals as goal

pub returns-then-spent : goal.returns-then-spent
returns-then-spent c = λ e. never cc

pub returns-then-not-begins : goal.returns-then-not-begins
returns-then-not-begins c = λ e. never cc

pub refute-requires : goal.refute-requires
refute-requires c = (c.requires, stands-start c.requires (c.begins.ensures c.if-not-begins.false))

pub returns : goal.returns
returns c = λ e. none-told _ _ _ _ c.refute.result c.refute.ensures (sym c.is_some.ensures ∙ e)
