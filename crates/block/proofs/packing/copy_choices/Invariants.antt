use Rattle.block.specs.Packing.{ChoicesCopied}
use Rattle.block.proofs.packing.copy_choices.Given as goal

abbrev pub invariant-loop-i : goal.invariant-loop-i
invariant-loop-i l = ChoicesCopied l.initial.block l.block l.choices l.i
