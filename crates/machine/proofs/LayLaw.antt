-- Laying out a mutant.
use Prim.Native.Nat.{ℕ, zero, suc, ◌+◌, ◌/◌, ◌%◌, ◌<◌, ◌≤◌}
use native.Mathlib.Omega.{arith}
use mathlib.Core.Path.{◌≡◌, refl, ◌∙◌, ap}
use mathlib.Core.Bool.{Bool, true, false, cond, ◌&&◌}
use mathlib.Core.List.{List}
use borrow.Author.Count.{below_more}
use borrow.Author.Tests.{le-ltb}
use lib.Dec.{ltb}
use lib.ListN.{length, get_or, set, replicate}
use lib.Seq.{get_or-set_same, get_or-set_other}
use Rattle.model.specs.Machine.{Move}
use Rattle.model.specs.Mutant.{idle}
use Rattle.block.specs.Layout.{pair, states_of, inputs_of}
use Rattle.block.specs.Tabulated.{Wf, choices_at, choice_of, chosen, step_of, StepIs}
use Rattle.block.specs.declared.layout.Step.{Step}
use Rattle.block.specs.laws.ChoiceLaw.{step-inside}
use Rattle.machine.specs.Laid.{Chosen, as_move, Moves}

-- outside the inputs nothing
pub acts-outside : (m p : List ℕ) (k : ℕ) → inputs_of m ≤ k % 16 → idle ≡ step_of m p (k / 16) (k % 16)
unfolding step_of
acts-outside m p k out = rw (le-ltb (k % 16) (inputs_of m) out) (go (ltb (k / 16) (states_of m)))
  where
    go : (c : Bool) → idle ≡ cond (c && false) (choice_of m (pair (k / 16) (k % 16)) (chosen m p (pair (k / 16) (k % 16)))) idle
    go true = refl
    go false = refl

-- inside them the transition of its choice
pub acts-inside : (m p : List ℕ) (k c : ℕ) (r : Step) → Wf m → Chosen m p → k / 16 < states_of m → k % 16 < inputs_of m →
    c ≡ chosen m p k → StepIs m k c r → as_move r ≡ step_of m p (k / 16) (k % 16)
acts-inside m p k c r wf ch ls lx ec st =
    let e : pair (k / 16) (k % 16) ≡ k = omega arith in
    let low : c < choices_at m k = rw ec (ch.at k (omega (arith, wf.few-states))) in
    rw (step-inside m p (k / 16) (k % 16) ls lx, e, ← ec) (λ i. record { output = st.output wf low i; target = st.target wf low i })

pub one_more : (l : List ℕ) (f : ℕ → ℕ) (k v : ℕ) → k < length l → ((t : ℕ) → t < k → get_or l t 0 ≡ f t) → v ≡ f k → (t : ℕ) → t < k + 1 → get_or (set l k v) t 0 ≡ f t
one_more l f k v lt h e =
    below_more (λ t. get_or (set l k v) t 0 ≡ f t) k (λ t s. get_or-set_other l k t v 0 (λ z. omega arith) ∙ h t s) (get_or-set_same l k v 0 lt ∙ e)

pub zeros : (n t : ℕ) → get_or {A = ℕ} (replicate n 0) t 0 ≡ 0
zeros zero t = refl
zeros (suc n) zero = refl
zeros (suc n) (suc t) = zeros n t

module _ {move : ℕ → ℕ → Move} {outputs targets : List ℕ} where
  pub moves-none : Moves move outputs targets 0
  moves-none = record { output = λ t l. absurd (omega arith); target = λ t l. absurd (omega arith) }

  pub moves_more : {k : ℕ} (r : Step) → k < length outputs → k < length targets → Moves move outputs targets k → as_move r ≡ move (k / 16) (k % 16) →
      Moves move (set outputs k r.output) (set targets k r.target) (k + 1)
  moves_more {k} r lo lt h e =
      record {
        output = one_more outputs (λ i. (move (i / 16) (i % 16)).output) k r.output lo h.output (ap (λ (t : Move). t.output) e);
        target = one_more targets (λ i. (move (i / 16) (i % 16)).target) k r.target lt h.target (ap (λ (t : Move). t.target) e);
      }

  pub moves-fewer : {i j : ℕ} → j ≤ i → Moves move outputs targets i → Moves move outputs targets j
  moves-fewer l h = record { output = λ t s. h.output t (omega arith); target = λ t s. h.target t (omega arith) }
