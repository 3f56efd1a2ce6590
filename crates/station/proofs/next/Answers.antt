use Rattle.lists.specs.Proving.{rules}
use Rattle.station.proofs.laws.ToldLaw.{next-told}
use Rattle.station.proofs.ReadLaw.{is-refused, is-accepted, tests-are}
use Rattle.station.proofs.AnswerLaw.{next-refused, next-given}
use Rattle.station.proofs.next.Goals as goal

pub returns-in_err-summary : goal.returns-in_err-summary
returns-in_err-summary c = let a = c.args in
    let s = a.sheet.now in
    let answer = next-refused s a.state (is-refused s c.read.ensures c.in_err-summary.was) (search rules) in record { answer = answer; told = next-told s a.state _ answer }

pub step-requires : goal.step-requires
step-requires c = let (sh, e, m) = is-accepted c.args.sheet.now c.read.ensures c.in_ok-summary.was in
    (sh, e, tests-are sh m)

pub returns : goal.returns
returns c = let a = c.args in
    let s = a.sheet.now in
    let (sh, e, m) = is-accepted s c.read.ensures c.in_ok-summary.was in
    let answer = next-given s a.state sh e (c.step.ensures sh e) in record { answer = answer; told = next-told s a.state _ answer }
