-- `look_through`: the mutant along the log, and held against the specification.
use Prim.Native.Nat.{ℕ}
use lib.ListN.{length-replicate}
use Rattle.clearing.specs.laws.BlamesLaw.{blames}
use Rattle.clearing.proofs.LookLaw.{lay-asks, compare-asks, fails, conforms, shown}
use Rattle.clearing.proofs.looks.look_through.Goals as goal

pub lay-requires : goal.lay-requires
lay-requires c = record { wf = lay-asks c.requires.full.0.1 c.requires.full.1; outputs_len = (rw c.blank-outputs.ensures (length-replicate {A = ℕ} 256 0), rw c.blank-targets.ensures (length-replicate {A = ℕ} 256 0)) }

pub initial-start-requires : goal.initial-start-requires
initial-start-requires c = (lay-asks c.requires.full.0.1 c.requires.full.1).0

pub by_test-requires : goal.by_test-requires
by_test-requires c = (lay-asks c.requires.full.0.1 c.requires.full.1).0

pub distinguish-requires : goal.distinguish-requires
distinguish-requires c = let a = compare-asks c.requires.full.0.1 c.requires.full.1 c.lay.ensures c.initial-start.ensures in record { valid = a.0; start_bound = a.1; block_in_bounds = c.requires.block_in_bounds }

pub returns-in-Some : goal.returns-in-Some
returns-in-Some c = λ sh f. blames f c.requires.full.1 c.by_test.ensures (fails f c.requires.full.1 c.lay.ensures c.initial-start.ensures c.first_wrong.ensures c.in-Some.is)

pub returns-in-None-distinguish : goal.returns-in-None-distinguish
returns-in-None-distinguish c = λ sh f. conforms f c.requires.full.1 c.lay.ensures c.initial-start.ensures c.distinguish.ensures.value c.in-None-distinguish.is

pub returns-in-Some-distinguish : goal.returns-in-Some-distinguish
returns-in-Some-distinguish c = λ sh f. shown f c.requires.full.1 c.lay.ensures c.initial-start.ensures c.distinguish.ensures.value c.first_wrong.ensures c.in-None.is c.in-Some-distinguish.is _ c.distinguish.ensures.buf_after
