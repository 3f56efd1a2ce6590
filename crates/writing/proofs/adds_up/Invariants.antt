-- `adds_up`: what is left is short of the sum by the lengths that are left.
use Rattle.std.proofs.Common.{◌+◌, ◌≡◌, drop}
use Rattle.writing.specs.Drawing.{total}
use Rattle.writing.proofs.adds_up.Given as goal

abbrev pub invariant-loop-n : goal.invariant-loop-n
invariant-loop-n l = total l.lengths + l.left ≡ l.presses + total (drop l.n-index l.lengths)
