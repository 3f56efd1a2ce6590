-- `first`: the mutant that was found is shown.
use Rattle.lists.specs.Proving.{refl}
use Rattle.search.proofs.SearchLaw.{showing}
use Rattle.search.proofs.attempts.first.Goals as goal

pub show-requires : goal.show-requires
show-requires c =
    let given = c.requires in
    ((given.0.0, showing given.0.1.tabled (rw c.in_ok-choices.was at (c.find.ensures given.0.0 given.0.1))), given.1)

pub returns-in_err-choices : goal.returns-in_err-choices
returns-in_err-choices c = λ sh s. rw c.from_residual.ensures (rw c.in_err-choices.was at (c.find.ensures sh s), record { board = refl; sequence = refl })

pub returns : goal.returns
returns c =
    λ sh s. let a = rw c.in_ok-choices.was at (c.find.ensures sh s) in record { mutant = _; first = a.first; written = c.show.ensures sh (showing s.tabled a) }
