-- Each answer of judge is printed in its form.
use Rattle.std.proofs.Common.{sym, ◌∙◌, length-take-le}
use Rattle.report.proofs.ReportLaw.{no_room, printed, complete-text, refused-text, shown, lines_fit}
use Rattle.report.proofs.report.Goals as goal

pub returns-then-out-lt2048 : goal.returns-then-out-lt2048
returns-then-out-lt2048 c = no_room _ _ c.if-out-lt2048.true

pub returns-in-Ok-None : goal.returns-in-Ok-None
returns-in-Ok-None c = printed _ _ c.if-out-lt2048.false (complete-text _ (rw c.in-Ok-None.field-0-is at (sym c.in-Ok-None.is ∙ c.judge.ensures.answer))) c.bytes.ensures

pub slice_bounds-mutant-end : goal.slice_bounds-mutant-end
slice_bounds-mutant-end c =
    let found = shown c.args.sheet.now _ _ _ _ 32 256 _ _ c.suspects-choices.ensures (rw c.in-Ok-Some.field-0-is at (sym c.in-Ok-Some.is ∙ c.judge.ensures.answer)) c.judge.ensures.board c.judge.ensures.sequence in
    found.choices

pub slice_bounds-put_survivor-end : goal.slice_bounds-put_survivor-end
slice_bounds-put_survivor-end c =
    let found = shown c.args.sheet.now _ _ _ _ 32 256 _ _ c.suspects-choices.ensures (rw c.in-Ok-Some.field-0-is at (sym c.in-Ok-Some.is ∙ c.judge.ensures.answer)) c.judge.ensures.board c.judge.ensures.sequence in
    sym (length-take-le _ _ found.choices)

pub slice_bounds-sequence-end : goal.slice_bounds-sequence-end
slice_bounds-sequence-end c =
    let found = shown c.args.sheet.now _ _ _ _ 32 256 _ _ c.suspects-choices.ensures (rw c.in-Ok-Some.field-0-is at (sym c.in-Ok-Some.is ∙ c.judge.ensures.answer)) c.judge.ensures.board c.judge.ensures.sequence in
    found.inputs

pub slice_bounds-put_survivor-end-in-Ok-Some : goal.slice_bounds-put_survivor-end-in-Ok-Some
slice_bounds-put_survivor-end-in-Ok-Some c =
    let found = shown c.args.sheet.now _ _ _ _ 32 256 _ _ c.suspects-choices.ensures (rw c.in-Ok-Some.field-0-is at (sym c.in-Ok-Some.is ∙ c.judge.ensures.answer)) c.judge.ensures.board c.judge.ensures.sequence in
    sym (length-take-le _ _ found.inputs)

pub put_survivor-requires : goal.put_survivor-requires
put_survivor-requires c =
    let found = shown c.args.sheet.now _ _ _ _ 32 256 _ _ c.suspects-choices.ensures (rw c.in-Ok-Some.field-0-is at (sym c.in-Ok-Some.is ∙ c.judge.ensures.answer)) c.judge.ensures.board c.judge.ensures.sequence in
    lines_fit found c.judge.auto.board c.judge.auto.sequence c.if-out-lt2048.false

pub returns-in-Ok-Some : goal.returns-in-Ok-Some
returns-in-Ok-Some c =
    let found = shown c.args.sheet.now _ _ _ _ 32 256 _ _ c.suspects-choices.ensures (rw c.in-Ok-Some.field-0-is at (sym c.in-Ok-Some.is ∙ c.judge.ensures.answer)) c.judge.ensures.board c.judge.ensures.sequence in
    printed _ _ c.if-out-lt2048.false found.text c.put_survivor.ensures

pub returns-in-Err : goal.returns-in-Err
returns-in-Err c = printed _ _ c.if-out-lt2048.false (refused-text _ _ (sym c.in-Err.is ∙ c.judge.ensures.answer)) c.put_refused.ensures
