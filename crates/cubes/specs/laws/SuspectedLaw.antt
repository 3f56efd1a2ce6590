-- The transition of a mutant in a cube at a suspect.
use Rattle.std.specs.Prelude.{◌<◌, ◌≡◌}
use Rattle.lists.specs.Proving.{arith, ℕ, sym, ◌∙◌, ap, subst, List, get_or}
use Rattle.model.specs.Machine.{Move}
use Rattle.block.specs.Layout.{pair, site_at, states_of, inputs_of, choices_of}
use Rattle.block.specs.Tabulated.{Wf, Ranged, choice_of, chosen, step_of}
use Rattle.block.specs.laws.ChoiceLaw.{chosen-some, step-inside}
use Rattle.cubes.specs.Cube.{Means, In}

pub place-low : {m : List ℕ} {q x : ℕ} → Wf m → q < states_of m → x < inputs_of m → pair q x < 256
place-low wf lq lx = omega (arith, wf.few-states, wf.few-inputs)

-- it is meant, and what holds of every choice of every suspect holds of it
pub record Suspected (m : List ℕ) (v : Move) (i l : ℕ) : Type 1 where
  pub means : Means l v
  pub at : (P : ℕ → Move → Type 0) → ((k c : ℕ) → k < 257 → (site_at m k ≡ 255 → ⊥) → c < choices_of m (site_at m k) → P (site_at m k) (choice_of m k c)) → P i v

-- at the pair k, or into the waking state
pub suspected-at : {m cube b : List ℕ} {i l : ℕ} (k : ℕ) → Wf m → k < 257 → i ≡ site_at m k → (site_at m k ≡ 255 → ⊥) → l ≡ get_or cube i 0
    → Ranged m b → In m cube b → Suspected m (choice_of m k (chosen m b k)) i l
suspected-at {m} {cube} {b} {i} {l} k wf lk ei ns el r g =
    let v = choice_of m k (chosen m b k) in
    let lit : get_or cube (site_at m k) 0 ≡ l = ap (λ (n : ℕ). get_or cube n 0) (sym ei) ∙ sym el in
    let lc : chosen m b k < choices_of m (site_at m k) = rw (chosen-some m b k ns) (r.at (site_at m k) (wf.sites k lk ns)) in
    record {
      means = subst (λ (n : ℕ). Means n v) lit (g.at k lk ns);
      at = λ P f. subst (λ (n : ℕ). P n v) (sym ei) (f k (chosen m b k) lk ns lc);
    }

-- at a state and an input
pub suspected : {m cube b : List ℕ} {q x i l : ℕ} (k : ℕ) → Wf m → q < states_of m → x < inputs_of m → k ≡ pair q x → i ≡ site_at m k → (site_at m k ≡ 255 → ⊥) → l ≡ get_or cube i 0
    → Ranged m b → In m cube b → Suspected m (step_of m b q x) i l
suspected {m} {cube} {b} {q} {x} {i} {l} k wf lq lx ek ei ns el r g =
    let lk : k < 257 = omega (arith, ek, place-low wf lq lx) in
    let step : choice_of m k (chosen m b k) ≡ step_of m b q x = ap (λ (n : ℕ). choice_of m n (chosen m b n)) ek ∙ sym (step-inside m b q x lq lx) in
    subst (λ (v : Move). Suspected m v i l) step (suspected-at k wf lk ei ns el r g)
