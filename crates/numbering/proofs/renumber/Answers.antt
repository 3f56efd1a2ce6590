-- `renumber`: refused as reading refuses, a short buffer, then the sheet with its states renamed.
use Rattle.lists.specs.Proving.{arith, rules, sym, ◌∙◌}
use Rattle.numbering.proofs.NumberLaw.{opened, searched, states-are, parted, told-unread, told-short, told-numbered}
use Rattle.sheet.specs.laws.TablesLaw.{into-accepted}
use Rattle.numbering.proofs.renumber.Goals as goal

pub returns-in_err-size : goal.returns-in_err-size
returns-in_err-size c = let x = told-unread c.args.sheet.now c.args.buffer.now (sym c.load_noughts.ensures.reading ∙ c.in_err-size.was) (search rules) in record { answer = x.0; bytes = x.1; told = x.2 }

pub returns-then-buffer-sheet : goal.returns-then-buffer-sheet
returns-then-buffer-sheet c = let o = opened c.args.sheet.now (sym c.load_noughts.ensures.reading ∙ c.in_ok-size.was) (into-accepted _ _ (sym c.in_ok-size.was ∙ c.load_noughts.ensures.reading) c.load_noughts.ensures.tables) in
    let x = told-short o c.args.buffer.now c.new.ensures c.if-buffer-sheet.true in record { answer = x.0; bytes = x.1; told = x.2 }

pub numbers_of-number-requires : goal.numbers_of-number-requires
numbers_of-number-requires c = let o = opened c.args.sheet.now (sym c.load_noughts.ensures.reading ∙ c.in_ok-size.was) (into-accepted _ _ (sym c.in_ok-size.was ∙ c.load_noughts.ensures.reading) c.load_noughts.ensures.tables) in
    (o.sheet, searched o, states-are o)

pub rewrite-requires : goal.rewrite-requires
rewrite-requires c = let o = opened c.args.sheet.now (sym c.load_noughts.ensures.reading ∙ c.in_ok-size.was) (into-accepted _ _ (sym c.in_ok-size.was ∙ c.load_noughts.ensures.reading) c.load_noughts.ensures.tables) in
    let n = c.numbers_of-number in
    (o.sheet, parted o n.result n.ensures.result_len (n.ensures.t_value o.sheet (searched o) (states-are o)) (c.layout_of.ensures o.sheet o.is) (omega (arith, c.if-buffer-sheet.false)))

pub returns : goal.returns
returns c = let o = opened c.args.sheet.now (sym c.load_noughts.ensures.reading ∙ c.in_ok-size.was) (into-accepted _ _ (sym c.in_ok-size.was ∙ c.load_noughts.ensures.reading) c.load_noughts.ensures.tables) in
    let n = c.numbers_of-number in
    let is = n.ensures.t_value o.sheet (searched o) (states-are o) in
    let x = told-numbered o c.args.buffer.now n.result n.ensures.result_len is (omega (arith, c.if-buffer-sheet.false))
    (c.rewrite.ensures o.sheet (parted o n.result n.ensures.result_len is (c.layout_of.ensures o.sheet o.is) (omega (arith, c.if-buffer-sheet.false)))) in record { answer = x.0; bytes = x.1; told = x.2 }
