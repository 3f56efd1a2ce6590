-- `wanted`: whether all outputs along the log are right, and the goal is met.
use Rattle.lists.specs.Proving.{ℕ, length-replicate}
use Rattle.search.proofs.CheckLaw.{lay-asks, meets-asks, fails, passes}
use Rattle.search.proofs.check.wanted.Goals as goal

pub lay-requires : goal.lay-requires
lay-requires c = record { wf = lay-asks c.requires.1; outputs_len = (rw c.blank-outputs.ensures (length-replicate {A = ℕ} 256 0), rw c.blank-targets.ensures (length-replicate {A = ℕ} 256 0)) }

pub initial-start-requires : goal.initial-start-requires
initial-start-requires c = (lay-asks c.requires.1).0

pub meets-requires : goal.meets-requires
meets-requires c =
    meets-asks c.requires.1 c.lay.ensures c.initial-start.ensures

pub returns-in-None : goal.returns-in-None
returns-in-None c =
    λ sh w. passes w c.lay.ensures c.initial-start.ensures c.args.log.now c.first_wrong.ensures c.in-None.is c.meets.ensures

pub returns-in-Some : goal.returns-in-Some
returns-in-Some c =
    λ sh w. fails w c.lay.ensures c.initial-start.ensures c.args.log.now c.first_wrong.ensures c.in-Some.is
