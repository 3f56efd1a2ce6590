use native.Mathlib.Omega.{arith}
use Rattle.reading.proofs.PlaceLaw as laws
use Rattle.reading.proofs.part.test_at.Goals as goal

pub returns : goal.returns
returns c = laws.test-is c.args.sheet.now c.args.at _ _ (omega arith) c.operands_end.ensures
