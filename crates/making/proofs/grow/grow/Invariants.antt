-- `grow`: from survivor to survivor, each test leaves less room.
use Rattle.making.proofs.GrowLaw.{Turning}
use Rattle.making.proofs.grow.grow.Given as goal

abbrev pub invariant-loop-d : goal.invariant-loop-d
invariant-loop-d l = Turning l.block l.ready l.initial.store l.initial.bytes l.initial.log l.initial.growth l.facts l.store l.notes l.bytes l.log l.p l.blame l.sequence l.growth

abbrev pub decreases-loop-d : goal.decreases-loop-d
decreases-loop-d l = l.growth.room
