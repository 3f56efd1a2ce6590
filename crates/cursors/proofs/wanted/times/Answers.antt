use Rattle.lists.specs.Proving.{arith}
use borrow.Author.Rules.{scaled_Fits}
use Rattle.cursors.proofs.wanted.times.Goals as goal

pub overflow_mul-result : goal.overflow_mul-result
overflow_mul-result c = scaled_Fits _ 512 _ (omega arith) (omega arith)
