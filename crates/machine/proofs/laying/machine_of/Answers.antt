-- `machine_of`: the bytes are no mutant, or it is laid out.
use Prim.Native.Nat.{ℕ}
use mathlib.Core.Path.{sym, ◌∙◌, ap}
use lib.ListN.{length, length-replicate}
use Rattle.block.specs.laws.TabledLaw.{well-formed}
use Rattle.machine.specs.laws.LaidLaw.{settled-chosen}
use Rattle.machine.specs.laws.FitsLaw.{fit-mutant}
use Rattle.machine.proofs.MisfitLaw.{settles, machined}
use Rattle.machine.proofs.laying.machine_of.Goals as goal

pub initial-requires : goal.initial-requires
initial-requires c = well-formed c.requires.1

pub lay-requires : goal.lay-requires
lay-requires c = let tb = c.requires.1 in
    let is = fit-mutant c.requires.0 _ (sym (c.fits.ensures _ tb) ∙ c.in_ok-fits.was) in record { wf = (well-formed tb, settled-chosen tb is (settles tb c.widened-p.ensures)); outputs_len = (ap length c.blank.ensures ∙ length-replicate {A = ℕ} 256 0, ap length c.blank-2.ensures ∙ length-replicate {A = ℕ} 256 0) }

pub returns : goal.returns
returns c = λ sh tb. machined tb c.widened-p.ensures (fit-mutant sh _ (sym (c.fits.ensures sh tb) ∙ c.in_ok-fits.was)) c.initial.ensures c.lay.ensures
