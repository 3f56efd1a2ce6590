use Rattle.lists.specs.Proving.{rules, sym, ◌∙◌}
use Rattle.station.proofs.laws.ToldLaw.{taken-told}
use Rattle.station.proofs.ReadLaw.{is-refused, is-accepted, outputs-are}
use Rattle.station.proofs.WalkLaw.{ruled, due-low}
use Rattle.station.proofs.AnswerLaw.{take-refused, take_none, due-is, take-high, take-heard}
use Rattle.sheet.specs.laws.TablesLaw.{into-accepted}
use Rattle.station.proofs.take_output.Goals as goal

pub returns-in_err-summary : goal.returns-in_err-summary
returns-in_err-summary c = let a = c.args in
    let s = a.sheet.now in
    let answer = take-refused s a.state a.output (is-refused s c.load_noughts.ensures.reading c.in_err-summary.was) (search rules) in record { answer = answer; told = taken-told s a.state a.output _ answer }

pub due_output-requires : goal.due_output-requires
due_output-requires c = let (sh, e, m) = is-accepted c.args.sheet.now c.load_noughts.ensures.reading c.in_ok-summary.was in
    (sh, ruled c.args.sheet.now sh _ e (into-accepted _ _ (sym c.in_ok-summary.was ∙ c.load_noughts.ensures.reading) c.load_noughts.ensures.tables))

pub returns-in_default : goal.returns-in_default
returns-in_default c = let a = c.args in
    let s = a.sheet.now in
    let (sh, e, m) = is-accepted s c.load_noughts.ensures.reading c.in_ok-summary.was in
    let due = c.due_output.ensures sh (ruled s sh _ e (into-accepted _ _ (sym c.in_ok-summary.was ∙ c.load_noughts.ensures.reading) c.load_noughts.ensures.tables)) in
    let answer = take_none s a.state a.output sh e due c.in_default.is c.new.ensures in record { answer = answer; told = taken-told s a.state a.output _ answer }

pub returns-then-summary-output : goal.returns-then-summary-output
returns-then-summary-output c = let a = c.args in
    let s = a.sheet.now in
    let (sh, e, m) = is-accepted s c.load_noughts.ensures.reading c.in_ok-summary.was in
    let due = c.due_output.ensures sh (ruled s sh _ e (into-accepted _ _ (sym c.in_ok-summary.was ∙ c.load_noughts.ensures.reading) c.load_noughts.ensures.tables)) in
    let answer = take-high s a.state a.output sh e due c.in-Some.is (outputs-are sh m) c.if-summary-output.true c.new-then-summary-output.ensures in record { answer = answer; told = taken-told s a.state a.output _ answer }

pub heard-requires : goal.heard-requires
heard-requires c = let a = c.args in
    let s = a.sheet.now in
    let (sh, e, m) = is-accepted s c.load_noughts.ensures.reading c.in_ok-summary.was in
    let r = ruled s sh _ e (into-accepted _ _ (sym c.in_ok-summary.was ∙ c.load_noughts.ensures.reading) c.load_noughts.ensures.tables) in
    let due = c.due_output.ensures sh r in
    due-low r a.state a.state.phase (due-is s a.state a.output sh e due c.in-Some.is)

pub returns : goal.returns
returns c = let a = c.args in
    let s = a.sheet.now in
    let (sh, e, m) = is-accepted s c.load_noughts.ensures.reading c.in_ok-summary.was in
    let due = c.due_output.ensures sh (ruled s sh _ e (into-accepted _ _ (sym c.in_ok-summary.was ∙ c.load_noughts.ensures.reading) c.load_noughts.ensures.tables)) in
    let answer = take-heard s a.state a.output sh e due c.in-Some.is (outputs-are sh m) c.if-summary-output.false c.heard.ensures in record { answer = answer; told = taken-told s a.state a.output _ answer }
