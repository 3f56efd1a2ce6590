-- `begin`: of every mutant, or of those after the one given.
use Rattle.search.proofs.SearchLaw.{start}
use Rattle.search.proofs.AfterLaw.{leaving-after}
use Rattle.search.proofs.settle.begin.Goals as goal

pub search-requires : goal.search-requires
search-requires c = let given = c.requires in record { searching = (given.leaving.0, start given.leaving.1.tabled); facts_ok = given.facts_ok }

pub search_after-requires : goal.search_after-requires
search_after-requires c = let given = c.requires in record { leaving = (given.leaving.0, leaving-after c.in-After.is given.leaving.1); facts_ok = given.facts_ok }

pub returns-in-Front : goal.returns-in-Front
returns-in-Front c = let told = c.search.ensures in record { answers = λ sh le. rw c.in-Front.is (told.answers sh (start le.tabled)); store_len = told.store_len }

pub returns-in-After : goal.returns-in-After
returns-in-After c =
    let told = c.search_after.ensures in
    let after = c.in-After.is in record { answers = λ sh le. rw after (told.answers sh (leaving-after after le)); store_len = told.store_len }
