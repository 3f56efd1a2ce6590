-- A cube along a log.
use Rattle.std.specs.Prelude.{◌+◌, ◌*◌, ◌/◌, ◌%◌, ◌^◌, ◌<◌, ◌≤◌, ◌≡◌, ◌∷◌}
use Rattle.lists.specs.Proving.{arith, ℕ, zero, suc, sym, ◌∙◌, subst, Bool, true, false, cond, List, [], length, get_or, drop, below_more, eqb, ne_eqb}
use Rattle.model.specs.Log.{reset, seen, GivesFrom}
use Rattle.model.specs.Machine.{Move}
use Rattle.cubes.specs.Sets.{Has, Joined}
use Rattle.block.specs.Layout.{pair, site_at, states_of, inputs_of}
use Rattle.block.specs.Tabulated.{Wf, Ranged, step_of, start_of}
use Rattle.block.specs.Tabulated.{StepIs}
use Rattle.block.specs.declared.layout.Step.{Step}
use Rattle.block.specs.laws.ChoiceLaw.{choice-lone, step-closed, start-low}
use Rattle.cubes.specs.Cube.{Given, In, NoneIn, StartsOk, Sought, GoingOk}
use Rattle.cubes.specs.declared.goal.Goal.{Goal}
use Rattle.block.specs.Logged.{observation, observations, ObservedAt, GivesOf}
use Rattle.block.specs.declared.logged.Observed.{Observed}
use Rattle.block.specs.laws.LoggedLaw.{drop-reset}
use Rattle.cubes.specs.Walk.{LoneLead, LeadOk, OnwardOk}
use Rattle.cubes.specs.laws.SetLaw.{nothing, one_same}
use Rattle.cubes.specs.laws.SuspectedLaw.{suspected}
use Rattle.cubes.specs.laws.ConformLaw.{step-low}

-- ---- one state
pub lone-not : {m : List ℕ} {k o u : ℕ} {r : Step} → Wf m → site_at m k ≡ 255 → StepIs m k 0 r → (r.output ≡ o → ⊥) → LoneLead m k o u
lone-not {m} {k} wf e is n = record { at = λ eo. absurd (n (is.output wf (choice-lone m k e) ∙ eo)) }

pub lone-one : {m : List ℕ} {k o u : ℕ} {r : Step} → Wf m → site_at m k ≡ 255 → StepIs m k 0 r → u ≡ 2 ^ r.target → LoneLead m k o u
lone-one {m} {k} {o} {u} {r} wf e is eu = record { at = λ eo. subst (λ (y : ℕ). Has u y) (is.target wf (choice-lone m k e)) (subst (λ (y : ℕ). Has y r.target) (sym eu) (one_same r.target)) }

pub lead-not : {m cube : List ℕ} {set q x o r : ℕ} → (Has set q → ⊥) → LeadOk m cube set q x o r
lead-not n = record { at = λ h. absurd (n h) }

pub lead-lone : {m cube : List ℕ} {set q x o r : ℕ} (k : ℕ) → q < states_of m → x < inputs_of m → k ≡ pair q x → site_at m k ≡ 255 → LoneLead m k o r → LeadOk m cube set q x o r
lead-lone {m} {cube} {set} {q} {x} {o} {r} k lq lx ek es lo =
    let at : site_at m (pair q x) ≡ 255 = subst (λ (n : ℕ). site_at m n ≡ 255) ek es in
    let lp : LoneLead m (pair q x) o r = subst (λ (n : ℕ). LoneLead m n o r) ek lo in
    record { at = λ h b g i. subst (λ (v : Move). v.output ≡ o → Has r v.target) (sym (step-closed m b q x lq lx at)) lp.at }

pub lead-freed : {m facts cube : List ℕ} {set q x i o l r : ℕ} (k : ℕ) → Given m facts → q < states_of m → x < inputs_of m → k ≡ pair q x → i ≡ site_at m k → (site_at m k ≡ 255 → ⊥) → l ≡ get_or cube i 0
    → GoingOk facts l i o r → LeadOk m cube set q x o r
lead-freed {m} {facts} {cube} {set} {q} {x} {i} {o} {l} {r} k wa lq lx ek ei ns el go = record { at = λ h b g y eo. lead b g y eo }
  where
    lead : (b : List ℕ) → Ranged m b → In m cube b → (step_of m b q x).output ≡ o → Has r (step_of m b q x).target
    lead b g y eo =
        let s = suspected k wa.wf lq lx ek ei ns el g y in
        go.at (step_of m b q x) s.means eo (subst (λ (n : ℕ). Has (get_or facts (i * 16 + n) 0) (step_of m b q x).target) eo (s.at (λ j v. Has (get_or facts (j * 16 + v.output) 0) v.target) wa.tables.going))

-- ---- every state
pub record OnTo (m cube : List ℕ) (set x o r n : ℕ) : Type 0 where
  pub at : (q : ℕ) → q < n → LeadOk m cube set q x o r

pub on_none : {m cube : List ℕ} {set x o r : ℕ} → OnTo m cube set x o r 0
on_none = record { at = λ q l. absurd (omega arith) }

lead-more : {m cube : List ℕ} {set q x o r w : ℕ} → ((j : ℕ) → Has r j → Has w j) → LeadOk m cube set q x o r → LeadOk m cube set q x o w
lead-more {m} {q = q} {x = x} more le = record { at = λ h b g i eo. more (step_of m b q x).target (le.at h b g i eo) }

pub on-more : {m cube : List ℕ} {set x o r u w n : ℕ} → OnTo m cube set x o r n → LeadOk m cube set n x o u → Joined r u w → OnTo m cube set x o w (n + 1)
on-more {n = n} on le jo = record { at = below_more _ n (λ q l. lead-more jo.left (on.at q l)) (lead-more jo.right le) }

pub on-all : {m cube : List ℕ} {set x o r n : ℕ} → OnTo m cube set x o r n → states_of m ≤ n → OnwardOk m cube set x o r
on-all on l = record { at = λ q h. on.at q (omega arith) }

-- ---- the log at an offset
module _ (move : ℕ → ℕ → Move) (start : ℕ) where
  -- what gives a log gives each later part of it from some state
  pub later-part : (log : List ℕ) (i s : ℕ) → GivesFrom move start s (observations log) → (q : ℕ) × GivesFrom move start q (observations (drop i log))
  unfolding GivesFrom observations
  later-part log zero s g = (s, g)
  later-part [] (suc i) s g = (s, g)
  later-part (v ∷ log) (suc i) s g = go (λ t. later-part log i t) (eqb v 16) (eqb v 17) g
    where
      go : ((t : ℕ) → GivesFrom move start t (observations log) → (q : ℕ) × GivesFrom move start q (observations (drop i log))) → (p r : Bool) →
          GivesFrom move start s (cond p (reset ∷ observations log) (cond r (seen (get_or log 0 0 % 16) (get_or log 1 0 % 16) ∷ observations log) (observations log))) →
          (q : ℕ) × GivesFrom move start q (observations (drop i log))
      go on true r h = on start h
      go on false true h = on (move s (get_or log 0 0 % 16)).target h.1
      go on false false h = on s h

  -- a reset
  pub after-reset : (log : List ℕ) (at s : ℕ) → at < length log → get_or log at 0 ≡ 16 → GivesFrom move start s (observations (drop at log)) → GivesFrom move start start (observations (drop (at + 1) log))
  unfolding GivesFrom
  after-reset log at s l e g = rw (drop-reset log at l e) at g

  -- the same, as it is observed
  module _ {log : List ℕ} {at : ℕ} {r : Observed} (ob : ObservedAt log at r) (few : r.code ≤ 256) (s : ℕ) where
    pub observed-reset : r.code ≡ 256 → GivesFrom move start s (observations (drop at log)) → GivesFrom move start start (observations (drop r.next log))
    unfolding GivesFrom observation
    observed-reset e g = rw (ob.is few, e) at g

    -- an input with its output
    pub after-seen : (r.code ≡ 256 → ⊥) → GivesFrom move start s (observations (drop at log))
        → ((move s (r.code / 16)).output ≡ r.code % 16) × GivesFrom move start (move s (r.code / 16)).target (observations (drop r.next log))
    unfolding GivesFrom observation
    after-seen n g = rw (ob.is few, ne_eqb r.code 256 n) at g

-- ---- the walk: a mutant in the cube that gives the log is in one of the states, with the log from `at` on still to come
pub record Standing (m b : List ℕ) (set : ℕ) (left : List ℕ) : Type 0 where
  pub state : ℕ
  pub low : state < states_of m
  pub has : Has set state
  pub goes : GivesFrom (step_of m b) (start_of m b) state (observations left)

pub record Walking (m log cube : List ℕ) (at set : ℕ) : Type 0 where
  pub here : (b : List ℕ) → Ranged m b → In m cube b → GivesOf m b log → Standing m b set (drop at log)

pub walk_start : {m log cube : List ℕ} {from set : ℕ} → Wf m → from < length log → get_or log from 0 ≡ 16 → StartsOk m cube set → Walking m log cube (from + 1) set
unfolding GivesOf
walk_start {m} {log} {cube} {from} wf l e st = record {
  here = λ b r g y.
      let p = later-part (step_of m b) (start_of m b) log from (start_of m b) y in
      record { state = start_of m b; low = start-low wf r; has = st.at b r g; goes = after-reset (step_of m b) (start_of m b) log from p.0 l e p.1 };
}

-- one observation more: an input x with the output o
module _ {m log cube : List ℕ} {at set x o w : ℕ} {s : Observed} (wf : Wf m) (wk : Walking m log cube at set) (ob : ObservedAt log at s) (few : s.code < 256)
    (ex : x ≡ s.code / 16) (eo : o ≡ s.code % 16) (lx : x < inputs_of m) (on : OnwardOk m cube set x o w) where
  moved : (b : List ℕ) → Ranged m b → In m cube b → GivesOf m b log → Standing m b w (drop s.next log)
  moved b r g y =
      let st = wk.here b r g y in
      let h = rw (← ex, ← eo) at (after-seen (step_of m b) (start_of m b) ob (omega arith) st.state (λ z. omega arith) st.goes) in
      record {
        state = (step_of m b st.state x).target;
        low = step-low wf r st.low lx;
        has = (on.at st.state st.low).at st.has b r g h.0;
        goes = h.1;
      }

  pub walk_more : Walking m log cube s.next w
  walk_more = record { here = moved }

  -- no state is left: no mutant in the cube gives the log
  pub walk_end : w ≡ 0 → (goal : Goal) → NoneIn goal m log cube
  unfolding Sought
  walk_end e goal = record { at = λ b r g y. let st = moved b r g y.0 in nothing st.state (subst (λ (n : ℕ). Has n st.state) e st.has) }
