-- A mutant laid out in tables, along a log.
use Rattle.std.specs.Prelude.{◌*◌, ◌/◌, ◌%◌, ◌<◌, ◌≡◌}
use Rattle.lists.specs.Proving.{arith, ℕ, refl, ◌∙◌, List}
use Rattle.sheet.specs.Sheet.{Sheet}
use Rattle.sheet.specs.WellFormed.{WellFormed}
use Rattle.model.specs.Mutant.{step}
use Rattle.model.proofs.laws.StaysLaw.{step_in}
use Rattle.block.specs.Layout.{pair}
use Rattle.logs.specs.laws.WalkedLaw.{Tabulates}
use Rattle.machine.specs.Laid.{Moves}

-- a mutant laid out is what the walk along a log asks
pub tabulates : {sh : Sheet} {outputs targets : List ℕ} → WellFormed sh → (b : List ℕ) → Moves (step sh b) outputs targets (16 * sh.size.states) →
    Tabulates sh.size.states (step sh b) outputs targets
tabulates {sh} wf b moved =
    record {
      few-states = wf.size.states.few;
      output = λ s x ls lx. let h = here s x ls lx in moved.output (pair s x) h.0 ∙ rw (h.1, h.2) refl;
      target = λ s x ls lx. let h = here s x ls lx in moved.target (pair s x) h.0 ∙ rw (h.1, h.2) refl;
      stays = λ s x ls lx. (step_in sh wf b s x).target;
    }
  where
    here : (s x : ℕ) → s < sh.size.states → x < 16 → (pair s x < 16 * sh.size.states) × (pair s x / 16 ≡ s) × (pair s x % 16 ≡ x)
    here s x ls lx = (omega arith, omega arith, omega arith)
