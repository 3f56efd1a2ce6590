-- `try_logged`: the suite's log, and the results by it.
use native.Mathlib.Omega.{arith}
use Prim.Native.Nat.{ℕ}
use Rattle.std.proofs.lemmas.List.{length-replicate}
use Rattle.logs.specs.laws.SuitesLaw.{suite-blank}
use Rattle.tray.proofs.TryLaw.{by-log}
use Rattle.tray.proofs.boards.try_logged.Goals as goal

pub whole_as_slice-log_suite : goal.whole_as_slice-log_suite
whole_as_slice-log_suite g c = omega (arith, c.requires.room)

pub shared_whole_as_front-try_boards : goal.shared_whole_as_front-try_boards
shared_whole_as_front-try_boards g c = let given = c.requires.loaded in (omega (arith, (c.log_suite-n.ensures given.0 (suite-blank g.row.ROOM given.1)).inside, c.log_suite-n.auto.log, length-replicate {A = ℕ} g.row.ROOM 0), omega (arith, c.requires.room))

pub try_boards-requires : goal.try_boards-requires
try_boards-requires g c = let given = c.requires.loaded in (given.0, by-log given.1 (c.log_suite-n.ensures given.0 (suite-blank g.row.ROOM given.1)), given.2)

pub returns : goal.returns
returns g c = λ sh su tr. c.try_boards.ensures sh (by-log su (c.log_suite-n.ensures sh (suite-blank g.row.ROOM su))) tr
