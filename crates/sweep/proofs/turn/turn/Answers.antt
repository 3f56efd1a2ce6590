use Rattle.lists.specs.laws.TestLaw.{never}
use Rattle.sweep.proofs.turn.turn.Goals as goal

pub returns : goal.returns
returns c = let told = c.take_look.ensures in record { turned_ok = told.turned_ok; store_ok = (told.store_ok, λ e. never cc) }
