use Rattle.std.specs.Prelude.{◌/◌}
use Rattle.lists.specs.Proving.{refl, lt-ltb, le-ltb}
use Rattle.block.proofs.layout.stay.Goals as goal

pub returns-then-target-states : goal.returns-then-target-states
returns-then-target-states c = (refl, rw (lt-ltb (c.args.k / 16) c.args.states c.if-target-states.true) refl)

pub returns : goal.returns
returns c = (refl, rw (le-ltb (c.args.k / 16) c.args.states c.if-target-states.false) refl)
