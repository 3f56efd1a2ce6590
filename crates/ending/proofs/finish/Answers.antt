use Rattle.std.proofs.Common.{◌≡◌, true, ◌∙◌, sym, arith}
use Rattle.sheet.specs.Sheet.{all_reached}
use Rattle.ending.proofs.EndLaw as laws
use Rattle.ending.proofs.finish.Goals as goal

pub returns-then-at-sheet : goal.returns-then-at-sheet
returns-then-at-sheet c = λ sh h. cc (laws.end_more sh c.args.sheet.now c.args.at c.if-at-sheet.true)

pub returns-then-not-all_reached : goal.returns-then-not-all_reached
returns-then-not-all_reached c = λ sh h.
    cc (laws.end-lost sh c.args.sheet.now c.args.at c.if-at-sheet.false (sym (c.all_reached.ensures sh h.size h.leads) ∙ c.if-not-all_reached.true))

pub returns-then-slots-gt-MOST : goal.returns-then-slots-gt-MOST
returns-then-slots-gt-MOST c = λ sh h.
    let n = c.open_slots-slots.ensures sh h in
    let reached : all_reached sh ≡ true = sym (c.all_reached.ensures sh h.size h.leads) ∙ c.if-not-all_reached.false in
    cc (laws.end-many sh c.args.sheet.now c.args.at c.if-at-sheet.false reached (omega arith))

pub returns : goal.returns
returns c = λ sh h.
    let n = c.open_slots-slots.ensures sh h in
    let reached : all_reached sh ≡ true = sym (c.all_reached.ensures sh h.size h.leads) ∙ c.if-not-all_reached.false in
    cc (laws.end-good sh c.args.sheet.now c.args.at c.if-at-sheet.false reached (omega arith))
