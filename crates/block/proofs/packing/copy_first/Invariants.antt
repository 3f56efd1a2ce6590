use Rattle.block.specs.Packing.{FirstCopied}
use Rattle.block.proofs.packing.copy_first.Given as goal

abbrev pub invariant-loop-k : goal.invariant-loop-k
invariant-loop-k l = FirstCopied l.initial.block l.block l.first l.k
