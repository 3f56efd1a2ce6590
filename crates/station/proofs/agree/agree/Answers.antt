use mathlib.Core.Path.{sym, ◌∙◌, ap}
use Rattle.lists.specs.laws.TestLaw.{never}
use Prim.Native.Nat.{min}
use Rattle.station.proofs.ReadLaw.{is-refused, is-accepted, told, summary-of, tests-are}
use Rattle.station.proofs.PartsLaw.{agree-none, agree-heads, agree-tests, least-in}
use Rattle.station.proofs.agree.agree.Goals as goal

pub returns-in_default : goal.returns-in_default
returns-in_default c = λ new e. agree-none c.args.sheet.now new c.args.begun (is-refused c.args.sheet.now c.read.ensures c.in_default.is)

pub heads_agree-requires : goal.heads_agree-requires
heads_agree-requires c = record { old_told = told c.args.sheet.now c.read.ensures c.in-Ok.is; new_told = told c.args.changed.now c.read-2.ensures c.in-Ok-read.is }

pub tests_agree-requires : goal.tests_agree-requires
tests_agree-requires c = let (a, ea, ma) = is-accepted c.args.sheet.now c.read.ensures c.in-Ok.is in
    let (b, eb, mb) = is-accepted c.args.changed.now c.read-2.ensures c.in-Ok-read.is in record { tests_of = (a, record { read = ea; few = least-in _ _ c.min.ensures (tests-are a ma) }); tests_of_2 = (b, record { read = eb; few = least-in _ _ c.min-then-heads_agree.ensures (tests-are b mb) }) }

pub returns-then-heads_agree : goal.returns-then-heads_agree
returns-then-heads_agree c = λ new e.
    let (a, ea, ma) = is-accepted c.args.sheet.now c.read.ensures c.in-Ok.is in
    let mb = summary-of c.args.changed.now c.read-2.ensures new c.in-Ok-read.is e in
    agree-tests c.args.sheet.now a new c.args.begun ea c.min.result c.min-then-heads_agree.result (sym c.if-heads_agree.true ∙ c.heads_agree.ensures a new ea e)
    (c.min.ensures ∙ ap (min c.args.begun) (tests-are a ma)) (c.min-then-heads_agree.ensures ∙ ap (min c.args.begun) (tests-are new mb))
    (c.tests_agree.ensures a new (record { read = ea; few = least-in _ _ c.min.ensures (tests-are a ma) }) (record { read = e; few = least-in _ _ c.min-then-heads_agree.ensures (tests-are new mb) }))

pub returns-else-heads_agree : goal.returns-else-heads_agree
returns-else-heads_agree c = λ new e.
    let (a, ea, ma) = is-accepted c.args.sheet.now c.read.ensures c.in-Ok.is in
    c.if-heads_agree.false ∙ agree-heads c.args.sheet.now a new c.args.begun ea (sym c.if-heads_agree.false ∙ c.heads_agree.ensures a new ea e)
