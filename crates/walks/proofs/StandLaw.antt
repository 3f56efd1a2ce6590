-- Mutants that have the choices settled at some suspects, along a log.
use Rattle.std.specs.Prelude.{◌/◌, ◌%◌, ◌^◌, ◌<◌, ◌≤◌, ◌≡◌, ◌∷◌}
use Rattle.lists.specs.Proving.{arith, ℕ, refl, sym, ◌∙◌, ap, subst, List, [], get_or, drop, ℕ_discrete}
use Rattle.model.specs.Log.{GivesFrom}
use Rattle.model.specs.Machine.{Move}
use Rattle.block.specs.Layout.{pair, waking, site_at, states_of, inputs_of}
use Rattle.block.specs.Tabulated.{Wf, Ranged, StepIs, choices_at, choice_of, chosen, step_of, start_of}
use Rattle.block.specs.Logged.{observations, ObservedAt, GivesOf}
use Rattle.block.specs.declared.logged.Observed.{Observed}
use Rattle.block.specs.declared.layout.Step.{Step}
use Rattle.block.specs.laws.ChoiceLaw.{choice-waking, chosen_none, chosen-some, chosen-low, step-inside, start_is, start-low}
use Rattle.cubes.specs.Sets.{Has, HasAll, Joined}
use Rattle.cubes.specs.Cube.{Sought}
use Rattle.cubes.specs.declared.goal.Goal.{Goal}
use Rattle.cubes.specs.laws.ConformLaw.{step-low}
use Rattle.cubes.specs.laws.SetLaw.{one_same}
use Rattle.cubes.specs.laws.WalkLaw.{later-part, observed-reset, after-seen}
use Rattle.walks.specs.Walks.{Agrees, NoneBy, Settled, ChoiceIs, UsedWith, PairAt, Begins, Here, Stands}
use Rattle.walks.specs.declared.walk.Place.{Place}

pub agrees-fewer : {p b : List ℕ} {used wider : ℕ} → HasAll used wider → Agrees p wider b → Agrees p used b
agrees-fewer more g = record { at = λ j h. g.at j (more j h) }

-- ---- one step
pub suspect-low : {m : List ℕ} {i k : ℕ} → Wf m → k < 257 → i ≡ site_at m k → (i ≡ 255 → ⊥) → i < 32
suspect-low {k = k} wf lk e n = omega (arith, e, wf.sites k lk (λ z. n (e ∙ z)))

settled-by : {m p : List ℕ} {used k c : ℕ} {step : Step} → Wf m → k < 257 → StepIs m k c step → ((b : List ℕ) → Agrees p used b → chosen m b k ≡ c) → Settled m p used k step
settled-by {m} {p} {used} {k} {c} {step} wf lk is same = record {
  output = λ b w g. is.output wf (low b w g) ∙ ap (λ (d : ℕ). (choice_of m k d).output) (sym (same b g));
  target = λ b w g. is.target wf (low b w g) ∙ ap (λ (d : ℕ). (choice_of m k d).target) (sym (same b g));
}
  where
    low : (b : List ℕ) → Ranged m b → Agrees p used b → c < choices_at m k
    low b w g = subst (λ (d : ℕ). d < choices_at m k) (same b g) (chosen-low wf w k lk)

-- at a pair that is no suspect
settled-lone : {m p : List ℕ} {used k : ℕ} {step : Step} → Wf m → k < 257 → site_at m k ≡ 255 → StepIs m k 0 step → Settled m p used k step
settled-lone {m} {k = k} wf lk e is = settled-by wf lk is (λ b g. chosen_none m b k e)

-- at a settled suspect, which is used
settled_at : {m p : List ℕ} {used k i c : ℕ} {step : Step} → Wf m → k < 257 → i ≡ site_at m k → (i ≡ 255 → ⊥) → c ≡ get_or p i 0 → (c ≡ 256 → ⊥) → Has used i → StepIs m k c step → Settled m p used k step
settled_at {m} {p} {used} {k} {i} {c} wf lk ei ni ec nc has is =
    settled-by wf lk is (λ b g. chosen-some m b k (λ z. ni (ei ∙ z)) ∙ ap (λ (j : ℕ). get_or b j 0) (sym ei) ∙ g.at i has (λ z. nc (ec ∙ z)) ∙ sym ec)

-- so at any pair
pub settled-step : {m p : List ℕ} {before used k i c : ℕ} {step : Step} → Wf m → k < 257 → i ≡ site_at m k → ChoiceIs p i c → UsedWith before i used → StepIs m k c step → Settled m p used k step
settled-step {m} {p} {before} {used} {k} {i} {c} {step} wf lk ei ch us is = go (ℕ_discrete i 255)
  where
    go : Dec (i ≡ 255) → Settled m p used k step
    go (yes e) = settled-lone wf lk (sym ei ∙ e) (subst (λ (d : ℕ). StepIs m k d step) (ch.none e) is)
    go (no n) = settled_at wf lk ei n (ch.some n) ch.settled (us.has n (suspect-low wf lk ei n)) is

-- a suspect that is added is used
pub joined-has : {before used i : ℕ} → i < 32 → Joined before (2 ^ (i % 32)) used → Has used i
joined-has {before} {used} {i} l jo = jo.right i (subst (λ (n : ℕ). Has (2 ^ n) i) (omega arith) (one_same i))

-- ---- the walk
-- the transition of the waking state leads to the start
pub start-settled : {m p b : List ℕ} {used : ℕ} {step : Step} → Settled m p used waking step → Ranged m b → Agrees p used b → start_of m b ≡ step.target
start-settled {m} {b = b} se w g = start_is m b ∙ sym (se.target b w g)

from-any : (move : ℕ → ℕ → Move) (start s q : ℕ) (log : List ℕ) → Begins log → GivesFrom move start s (observations log) → GivesFrom move start q (observations log)
unfolding GivesFrom observations
from-any move start s q [] be g = tt
from-any move start s q (v ∷ log) be g = let e : v ≡ 16 = be.at (omega arith) in rw e (rw e at g)

pub stands-start : {m log p : List ℕ} → Wf m → Begins log → Stands m log p (record { at = 0; state = 0; used = 0 })
unfolding GivesOf
stands-start {m} {log} wf be = record { at = λ b w g y. record { low = wf.some-states; goes = from-any (step_of m b) (start_of m b) (start_of m b) 0 log be y } }

-- after a reset what was before does not matter
stands-reset : {m log p : List ℕ} {at used : ℕ} {step : Step} {s : Observed} → Wf m → ObservedAt log at s → s.code ≡ 256 → Settled m p used waking step → Stands m log p (record { at = s.next; state = step.target; used = used })
unfolding GivesOf
stands-reset {m} {log} {p} {at} {s = s} wf ob e se = record {
  at = λ b w g y.
      let h = later-part (step_of m b) (start_of m b) log at (start_of m b) y in
      let here = start-settled se w g in
      record {
        low = subst (λ (q : ℕ). q < states_of m) here (start-low wf w);
        goes = subst (λ (q : ℕ). GivesFrom (step_of m b) (start_of m b) q (observations (drop s.next log))) here (observed-reset (step_of m b) (start_of m b) ob (omega arith) h.0 e h.1);
      };
}

-- an input x with the output o, where the step is settled
module _ {m log p : List ℕ} {place : Place} {x o k used : ℕ} {step : Step} {s : Observed} (wf : Wf m) (st : Stands m log p place) (ob : ObservedAt log place.at s) (few : s.code ≤ 256)
    (n : s.code ≡ 256 → ⊥) (ex : x ≡ s.code / 16) (eo : o ≡ s.code % 16) (lx : x < inputs_of m) (ek : k ≡ pair (place.state % 16) (x % 16)) (more : HasAll place.used used) (se : Settled m p used k step) where
  seen : (b : List ℕ) → Ranged m b → Agrees p used b → GivesOf m b log → (step.output ≡ o) × Here m b step.target (drop s.next log)
  seen b w g y =
      let q = place.state in
      let h = st.at b w (agrees-fewer more g) y in
      let f = rw (← ex, ← eo) at (after-seen (step_of m b) (start_of m b) ob few q n h.goes) in
      let ep : pair q x ≡ k = omega (arith, ek, h.low, wf.few-states, wf.few-inputs) in
      let inside : step_of m b q x ≡ choice_of m k (chosen m b k) = step-inside m b q x h.low lx ∙ ap (λ (j : ℕ). choice_of m j (chosen m b j)) ep in
      let et : (step_of m b q x).target ≡ step.target = ap (λ (v : Move). v.target) inside ∙ sym (se.target b w g) in (
        se.output b w g ∙ sym (ap (λ (v : Move). v.output) inside) ∙ f.0,
        record {
          low = subst (λ (q : ℕ). q < states_of m) et (step-low wf w h.low lx);
          goes = subst (λ (q : ℕ). GivesFrom (step_of m b) (start_of m b) q (observations (drop s.next log))) et f.1;
        },
      )

  -- the walk goes on
  stands_on : Stands m log p (record { at = s.next; state = step.target; used = used })
  stands_on = record { at = λ b w g y. (seen b w g y).1 }

  -- or no such mutant gives the log
  stands-not : (step.output ≡ o → ⊥) → (goal : Goal) → NoneBy goal m log p used
  unfolding Sought
  stands-not wrong goal = record { at = λ b w g y. wrong (seen b w g y.0).0 }

-- ---- one observation, at the pair k
module _ {m log p : List ℕ} {at state before since used k i : ℕ} {step : Step} {s : Observed} (wf : Wf m) (st : Stands m log p (record { at = at; state = state; used = before })) (ob : ObservedAt log at s)
    (pa : PairAt m state s.code k) (es : (s.code ≡ 256 → ⊥) → since ≡ before) (us : UsedWith since i used) (se : Settled m p used k step) where
  pub step-on : Stands m log p (record { at = s.next; state = step.target; used = used })
  step-on = go (ℕ_discrete s.code 256)
    where
      go : Dec (s.code ≡ 256) → Stands m log p (record { at = s.next; state = step.target; used = used })
      go (yes e) = stands-reset wf ob e (subst (λ (j : ℕ). Settled m p used j step) (pa.reset e) se)
      go (no n) = let h = pa.seen n in stands_on wf st ob pa.few n refl refl h.0 h.1 (λ j z. us.more j (rw (es n) z)) se

  pub step-not : (step.output ≡ s.code % 16 → ⊥) → (goal : Goal) → NoneBy goal m log p used
  step-not wrong goal = go (ℕ_discrete s.code 256)
    where
      go : Dec (s.code ≡ 256) → NoneBy goal m log p used
      go (yes e) = record { at = λ b w g y. wrong (se.output b w g ∙ ap (λ (j : ℕ). (choice_of m j (chosen m b j)).output) (pa.reset e) ∙ ap (λ (u : Move). u.output) (choice-waking m (chosen m b waking)) ∙ sym (ap (λ (w : ℕ). w % 16) e)) }
      go (no n) = let h = pa.seen n in stands-not wf st ob pa.few n refl refl h.0 h.1 (λ j z. us.more j (rw (es n) z)) se wrong goal
