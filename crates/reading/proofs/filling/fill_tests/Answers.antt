use Rattle.std.proofs.Common.{refl, ap, slice_set, ◌/◌, arith}
use Rattle.sheet.specs.declared.Tables.{Tables}
use Rattle.reading.proofs.FillLaw as laws
use Rattle.reading.proofs.filling.fill_tests.Goals as goal

pub loop-i-init : goal.loop-i-init
loop-i-init c = record { within = laws.tests-room _ _ _ c.requires.1; noted = λ l h e t. laws.testing-start _ _ l _ h t; others = refl }

pub loop-i-preserved : goal.loop-i-preserved
loop-i-preserved c =
    let l = c.loop-i in
    let span = c.test_at-span in
    record {
      within = span.ensures.within;
      noted = λ tests h e t. laws.testing-next _ c.args.place tests _ l.at l.i h (omega arith) span.result span.ensures (l.invariant.noted tests h e t);
      others = ap (λ (x : Tables). record x { starts = slice_set l.tables.starts l.i span.result.start; lengths = slice_set l.tables.lengths l.i (span.result.length / 2) }) l.invariant.others;
    }
