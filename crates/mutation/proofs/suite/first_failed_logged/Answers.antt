-- `first_failed_logged`: 13 and 14, then the walk along the suite's log, then the slots of the tests that it tried.
use native.Mathlib.Omega.{arith}
use Prim.Native.Nat.{ℕ}
use Rattle.std.proofs.lemmas.List.{length-replicate}
use Rattle.std.proofs.Common.{rules, Ok}
use mathlib.Core.Path.{sym, ◌∙◌, ap}
use Rattle.sheet.specs.Reading.{accepted}
use Rattle.model.specs.Suite.{finding_of}
use Rattle.model.proofs.laws.OperationLaw.{mutant-goes-on}
use Rattle.mutation.specs.declared.Tested.{Tested}
use Rattle.mutation.specs.Answers.{failed_answer}
use Rattle.logs.specs.laws.SuitesLaw.{suite-blank}
use Rattle.mutation.proofs.OperateLaw.{failed-refused}
use Rattle.mutation.proofs.FailureLaw.{inside, found-reached, first_found}
use Rattle.mutation.proofs.suite.first_failed_logged.Goals as goal

pub returns-in_err-machine : goal.returns-in_err-machine
returns-in_err-machine g c = λ sh su. failed-refused sh _ (c.in_err-machine.ensures sh su.tabled) (search rules)

pub whole_as_slice-log_suite : goal.whole_as_slice-log_suite
whole_as_slice-log_suite g c = omega (arith, c.requires.room)

pub shared_whole_as_front-first_wrong : goal.shared_whole_as_front-first_wrong
shared_whole_as_front-first_wrong g c = let (sh, su) = c.requires.loaded in (omega (arith, (c.log_suite-n.ensures sh (suite-blank g.row.ROOM su)).inside, c.log_suite-n.auto.log, length-replicate {A = ℕ} g.row.ROOM 0), omega (arith, c.requires.room))

pub use_tried-set-requires : goal.use_tried-set-requires
use_tried-set-requires g c = let (sh, su) = c.requires.loaded in
    let is = c.in_ok-machine.ensures sh su.tabled in
    (inside su, found-reached su is (c.log_suite-n.ensures sh (suite-blank g.row.ROOM su)) c.first_wrong-failed.ensures)

pub returns : goal.returns
returns g c = λ sh su.
    let is = c.in_ok-machine.ensures sh su.tabled in
    ap (λ (t : Tested). Ok t) (first_found su is (c.log_suite-n.ensures sh (suite-blank g.row.ROOM su)) c.first_wrong-failed.ensures c.use_tried-set.ensures c.counted.ensures (search rules))
    ∙ sym (ap failed_answer (mutant-goes-on sh c.args.mutant.now (accepted (finding_of sh c.args.mutant.now)) is.is))
