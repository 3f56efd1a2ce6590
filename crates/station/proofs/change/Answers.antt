use mathlib.Core.Path.{◌≡◌, sym, ◌∙◌}
use Rattle.std.specs.Prelude.{Err}
use Rattle.station.specs.Station.{changing}
use Rattle.station.specs.Answers.{changed_answer}
use Rattle.lists.specs.Proving.{rules}
use Rattle.station.proofs.laws.ToldLaw.{changed-told}
use Rattle.station.proofs.laws.StandsLaw.{suited-as}
use Rattle.station.proofs.AnswerLaw.{suited-some, suited-none, change-refused, change-closed, change-differs, change-goes-on}
use Rattle.station.proofs.change.Goals as goal
use Rattle.station.proofs.change.Goals.{else-is_open-via-then-is_open+else-agree, else-is_open-via-else-is_open}

pub returns-in-Err : goal.returns-in-Err
returns-in-Err c = let a = c.args in
    let s = a.sheet.now in
    let d = a.changed.now in
    let answer = change-refused s a.state d (suited-none d c.suit.ensures c.in-Err.is) (search rules) in record { answer = answer; told = changed-told s a.state d _ answer }

pub returns-then-agree : goal.returns-then-agree
returns-then-agree c = let a = c.args in
    let s = a.sheet.now in
    let d = a.changed.now in
    let (sh, e) = suited-some d c.suit.ensures c.in_default.is in
    let answer = change-goes-on s a.state d sh e (sym c.is_open.ensures ∙ c.if-is_open.true) (sym (c.agree.ensures sh (suited-as d sh e).read) ∙ c.if-agree.true) in record { answer = answer; told = changed-told s a.state d _ answer }

pub returns : goal.returns
returns c = let a = c.args in
    let s = a.sheet.now in
    let d = a.changed.now in
    let (sh, e) = suited-some d c.suit.ensures c.in_default.is in
    let answer : Err c.new.result ≡ changed_answer (changing s a.state d) =
    elim c.else-is_open.branch [
      | else-is_open-via-then-is_open+else-agree w ↦ change-differs s a.state d sh e (sym c.is_open.ensures ∙ w.if-is_open.true) (sym (w.agree.ensures sh (suited-as d sh e).read) ∙ w.if-agree.false) c.new.ensures
      | else-is_open-via-else-is_open w ↦ change-closed s a.state d sh e (sym c.is_open.ensures ∙ w.if-is_open.false) c.new.ensures
    ]
    in
    record { answer = answer; told = changed-told s a.state d _ answer }
