-- `merge`: the first sheet's refusal, the second's, or what becomes of both.
use Rattle.lists.specs.Proving.{arith, rules, length, sym, ◌∙◌}
use Rattle.merging.specs.declared.Concerns.TheVariants as concerns
use Rattle.merging.proofs.MergeLaw.{seen, size_few, read-as, pairs_of, whole-first, whole-second, whole-joined}
use Rattle.merging.proofs.merge.Goals as goal

pub returns-in_err-x : goal.returns-in_err-x
returns-in_err-x c = let a = c.args in
    let w = whole-first a.first.now a.second.now a.buffer.now (sym c.survey.ensures.answer ∙ c.in_err-x.was) (search rules) in record { answer = w.answer; bytes = w.bytes; told = w.told }

pub returns-in_err-y : goal.returns-in_err-y
returns-in_err-y c = let a = c.args in
    let v = seen a.first.now concerns.First (sym c.survey.ensures.answer ∙ c.in_ok-x.was) _ c.survey.ensures.tables in
    let w = whole-second a.first.now a.second.now a.buffer.now v.is (sym c.survey-2.ensures.answer ∙ c.in_err-y.was) (search rules) in record { answer = w.answer; bytes = w.bytes; told = w.told }

pub open_pairs-pairs-requires : goal.open_pairs-pairs-requires
open_pairs-pairs-requires c = size_few (seen c.args.first.now concerns.First (sym c.survey.ensures.answer ∙ c.in_ok-x.was) _ c.survey.ensures.tables)

pub new-a-requires : goal.new-a-requires
new-a-requires c = read-as (seen c.args.first.now concerns.First (sym c.survey.ensures.answer ∙ c.in_ok-x.was) _ c.survey.ensures.tables)

pub new-b-requires : goal.new-b-requires
new-b-requires c = read-as (seen c.args.second.now concerns.Second (sym c.survey-2.ensures.answer ∙ c.in_ok-y.was) _ c.survey-2.ensures.tables)

pub join-requires : goal.join-requires
join-requires c = let v = seen c.args.first.now concerns.First (sym c.survey.ensures.answer ∙ c.in_ok-x.was) _ c.survey.ensures.tables in
    let u = seen c.args.second.now concerns.Second (sym c.survey-2.ensures.answer ∙ c.in_ok-y.was) _ c.survey-2.ensures.tables in
    (c.open_pairs-pairs.ensures.few, (v.sheet, u.sheet, c.new-a.ensures v.sheet v.is, c.new-b.ensures u.sheet u.is))

pub returns : goal.returns
returns c = let a = c.args in
    let v = seen a.first.now concerns.First (sym c.survey.ensures.answer ∙ c.in_ok-x.was) _ c.survey.ensures.tables in
    let u = seen a.second.now concerns.Second (sym c.survey-2.ensures.answer ∙ c.in_ok-y.was) _ c.survey-2.ensures.tables in
    let j = c.join.ensures v.sheet u.sheet (c.new-a.ensures v.sheet v.is) (c.new-b.ensures u.sheet u.is)
    (λ same. pairs_of a.first.now a.second.now v u same c.open_pairs-pairs.ensures.counted) in
    let w = whole-joined a.first.now a.second.now a.buffer.now v.is u.is j (search rules) (search rules) in record { answer = w.answer; bytes = w.bytes; told = w.told }
