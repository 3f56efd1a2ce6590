-- the part lies within the sheet
use Rattle.std.proofs.Common.{arith}
use Rattle.reading.proofs.SpanLaw as laws
use Rattle.reading.proofs.test_part.Goals as goal

pub overflow_add-end : goal.overflow_add-end
overflow_add-end c = let room = laws.part_room c.args.sheet.now c.args.i c.in-Ok.span c.in-Ok.ensures in omega arith

pub slice_bounds-result-end-2 : goal.slice_bounds-result-end-2
slice_bounds-result-end-2 c = let room = laws.part_room c.args.sheet.now c.args.i c.in-Ok.span c.in-Ok.ensures in omega arith

pub returns : goal.returns
returns c = record { bytes = laws.part-is c.args.sheet.now c.args.i _ c.in-Ok.ensures; place = laws.part_lies c.args.sheet.now c.args.i _ c.in-Ok.ensures c.args.sheet.ref_ptr }
