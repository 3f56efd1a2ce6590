-- `judge_logged`: what the search from the first mutant on finds is the judgement.
use native.Mathlib.Omega.{arith}
use Prim.Native.Nat.{ℕ}
use Rattle.std.proofs.lemmas.List.{length-replicate}
use Rattle.logs.specs.laws.SuitesLaw.{suite-blank}
use Rattle.mutation.proofs.JudgingLaw.{from_front, judges-found}
use Rattle.mutation.proofs.verdict.judge_logged.Goals as goal

pub whole_as_slice-log_suite : goal.whole_as_slice-log_suite
whole_as_slice-log_suite g c = omega (arith, c.requires.room)

pub shared_whole_as_front-first : goal.shared_whole_as_front-first
shared_whole_as_front-first g c = let (sh, su) = c.requires.loaded.0 in (omega (arith, (c.log_suite-n.ensures sh (suite-blank g.row.ROOM su)).inside, c.log_suite-n.auto.log, length-replicate {A = ℕ} g.row.ROOM 0), omega (arith, c.requires.room))

pub first-requires : goal.first-requires
first-requires g c = let given = c.requires.loaded in ((given.0.0, from_front given.0.1.tabled), given.1)

pub returns : goal.returns
returns g c = λ sh su.
    rw c.flatten-survivor.ensures (judges-found sh (c.log_suite-n.ensures sh (suite-blank g.row.ROOM su)).is _ (c.first.ensures sh (from_front su.tabled)))
