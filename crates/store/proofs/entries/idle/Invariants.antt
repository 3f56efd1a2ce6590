use Rattle.std.specs.Prelude.{◌≡◌}
use Rattle.lists.specs.Proving.{length}
use Rattle.store.specs.Store.{Kept}
use Rattle.store.proofs.entries.idle.Given as goal

abbrev pub invariant-loop : goal.invariant-loop
invariant-loop l = record { kept : Kept l.initial.store l.store; long : l.n ≡ length l.store }
