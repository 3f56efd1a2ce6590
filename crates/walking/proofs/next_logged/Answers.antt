-- `next_logged`: what the search finds is the next mutant.
use native.Mathlib.Omega.{arith}
use Prim.Native.Nat.{ℕ}
use Rattle.std.proofs.lemmas.List.{length-replicate}
use Rattle.logs.specs.laws.SuitesLaw.{suite-blank}
use Rattle.walking.proofs.TakingLaw.{leaving, takes-found}
use Rattle.walking.proofs.next_logged.Goals as goal

pub whole_as_slice-log_suite : goal.whole_as_slice-log_suite
whole_as_slice-log_suite g c = omega (arith, c.requires.room)

pub shared_whole_as_front-first : goal.shared_whole_as_front-first
shared_whole_as_front-first g c = let given = c.requires.loaded.0 in (omega (arith, (c.log_suite-n.ensures given.0 (suite-blank g.row.ROOM given.1)).inside, c.log_suite-n.auto.log, length-replicate {A = ℕ} g.row.ROOM 0), omega (arith, c.requires.room))

pub first-requires : goal.first-requires
first-requires g c = let given = c.requires.loaded in ((given.0.0, leaving given.0.1.tabled given.0.2), given.1)

pub returns : goal.returns
returns g c = λ sh su ok. takes-found sh (c.log_suite-n.ensures sh (suite-blank g.row.ROOM su)).is _ _ (c.first.ensures sh (leaving su.tabled ok))
