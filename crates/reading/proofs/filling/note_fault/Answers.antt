use Rattle.std.proofs.Common.{arith}
use Rattle.sheet.specs.words.Tabled.{pair_key}
use Rattle.reading.proofs.FillLaw as laws
use Rattle.reading.proofs.filling.note_fault.Goals as goal
use Rattle.reading.proofs.filling.note_fault.Goals.{then-tables-pair-eq0, else-tables-pair-eq0}

pub overflow_add-tables : goal.overflow_add-tables
overflow_add-tables c =
    let k = laws.count-few c.args.tables.now c.requires.2.0 c.args.row c.requires.0 c.requires.2.2 in
    elim c.if-tables-pair-eq0.branch [
      | then-tables-pair-eq0 w ↦ rw (w.tables-is, c.place-pair.ensures) (omega arith)
      | else-tables-pair-eq0 w ↦ rw (w.tables-is, c.place-pair.ensures) (omega arith)
    ]

pub returns-clause-noted : goal.returns-clause-noted
returns-clause-noted c = λ l e h.
    let first = c.args.tables.now.first in
    let p = pair_key c.args.row in
    elim c.if-tables-pair-eq0.branch [
      | then-tables-pair-eq0 w ↦
          let none = rw (c.place-pair.ensures) at w.if-tables-pair-eq0.true in
          rw (w.tables-is, c.place-pair.ensures) (laws.fault-more c.args.tables.now l c.args.row c.args.i _ c.requires.0 c.requires.1 e (laws.first-written first p c.args.i _ none) h)
      | else-tables-pair-eq0 w ↦
          let some = rw (c.place-pair.ensures) at w.if-tables-pair-eq0.false in
          rw (w.tables-is, c.place-pair.ensures) (laws.fault-more c.args.tables.now l c.args.row c.args.i _ c.requires.0 c.requires.1 e (laws.first-kept first p c.args.i _ some) h)
    ]
