-- `try_board`: the machine of the mutant along the suite's log.
use Rattle.lists.specs.Proving.{arith}
use Rattle.tray.proofs.TryLaw.{machine-ok, passes, fails, few}
use Rattle.tray.proofs.boards.try_board.Goals as goal

pub unwrap-machine-requires : goal.unwrap-machine-requires
unwrap-machine-requires c = let (sh, su, is) = c.requires in machine-ok sh _ is _ (c.machine_of.ensures sh su.tabled)

pub returns-in-None : goal.returns-in-None
returns-in-None c = λ sh su is. passes su (rw c.unwrap-machine.ensures at (c.machine_of.ensures sh su.tabled)) c.first_wrong.ensures c.in-None.is

pub overflow_cast-result : goal.overflow_cast-result
overflow_cast-result c = let (sh, su, is) = c.requires in
    omega (arith, few su (rw c.unwrap-machine.ensures at (c.machine_of.ensures sh su.tabled)) c.first_wrong.ensures c.in-Some.is)

pub returns-in-Some : goal.returns-in-Some
returns-in-Some c = λ sh su is. fails su (rw c.unwrap-machine.ensures at (c.machine_of.ensures sh su.tabled)) c.first_wrong.ensures c.in-Some.is
