-- `write_choices`: the choices before j are written.
use Rattle.std.specs.Prelude.{◌-◌, ◌≤◌, ◌≡◌, ◌++◌}
use Rattle.lists.specs.Proving.{take, drop, length}
use Rattle.search.proofs.check.write_choices.Given as goal

abbrev pub invariant-loop-j : goal.invariant-loop-j
invariant-loop-j l = (l.j ≤ l.n) × (l.n ≤ length l.p) × (l.board ≡ take l.j l.p ++ drop l.j l.initial.board)
