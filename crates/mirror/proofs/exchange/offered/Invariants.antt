use Rattle.std.specs.Prelude.{◌<◌}
use Rattle.mirror.proofs.exchange.offered.Given as goal

abbrev pub invariant-loop-tries : goal.invariant-loop-tries
invariant-loop-tries l = 0 < l.end → l.d < l.end
