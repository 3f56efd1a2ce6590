-- `exists`: whether the search of every mutant finds one.
use Rattle.search.proofs.SearchLaw.{given-by}
use Rattle.search.proofs.attempts.exists.Goals as goal

pub find-requires : goal.find-requires
find-requires c = let given = c.requires in (given.0, record { tabled = given.1; is = tt })

pub returns : goal.returns
returns c = λ sh tb. given-by c.find.result c.is_some.ensures (c.find.ensures sh (record { tabled = tb; is = tt }))
