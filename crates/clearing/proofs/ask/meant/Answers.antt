use Rattle.lists.specs.laws.TestLaw.{never}
use Rattle.clearing.proofs.AskLaw.{meant_is}
use Rattle.clearing.proofs.ask.meant.Goals as goal

pub returns-then-t-ge16 : goal.returns-then-t-ge16
returns-then-t-ge16 c = λ e. never cc

pub returns : goal.returns
returns c = λ e low. meant_is _ c.requires.0 c.transition-step.ensures (c.means.ensures e) low
