-- `lay`: the indices before k are laid out.
use mathlib.Core.Path.{◌≡◌}
use lib.ListN.{length}
use Rattle.block.specs.Tabulated.{step_of}
use Rattle.machine.specs.Laid.{Moves}
use Rattle.machine.proofs.laying.lay.Given as goal

abbrev pub invariant-loop-k : goal.invariant-loop-k
invariant-loop-k l = (length l.outputs ≡ 256) × (length l.targets ≡ 256) × Moves (step_of l.block l.p) l.outputs l.targets l.k
