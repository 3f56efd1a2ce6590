use Rattle.std.proofs.Common.{arith}
use Rattle.reading.proofs.SpanLaw as laws
use Rattle.reading.proofs.layout.layout_of.Goals as goal

pub overflow_mul-faults : goal.overflow_mul-faults
overflow_mul-faults c = let room = laws.parts-room _ _ c.requires _ c.is_quiet-quiet.ensures _ c.from-rules.ensures in omega arith

pub overflow_add-faults : goal.overflow_add-faults
overflow_add-faults c = let room = laws.parts-room _ _ c.requires _ c.is_quiet-quiet.ensures _ c.from-rules.ensures in omega arith

pub overflow_mul-starts : goal.overflow_mul-starts
overflow_mul-starts c = let room = laws.parts-room _ _ c.requires _ c.is_quiet-quiet.ensures _ c.from-rules.ensures in omega arith

pub overflow_add-starts : goal.overflow_add-starts
overflow_add-starts c = let room = laws.parts-room _ _ c.requires _ c.is_quiet-quiet.ensures _ c.from-rules.ensures in omega arith

pub operands_end-tests-requires : goal.operands_end-tests-requires
operands_end-tests-requires c = let room = laws.parts-room _ _ c.requires _ c.is_quiet-quiet.ensures _ c.from-rules.ensures in omega arith

pub returns : goal.returns
returns c = λ sh e.
    laws.layout-is (laws.told-of c.args.sheet.now c.args.summary c.requires sh e) _ (c.is_quiet-quiet.ensures sh e) _ c.from-rules.ensures _ c.operands_end-tests.ensures
