-- The transitions of a pair, and the move of a mutant.
use Rattle.std.specs.Prelude.{◌+◌, ◌-◌, ◌/◌, ◌%◌, ◌<◌, ◌≤◌, ◌≡◌}
use Rattle.lists.specs.Proving.{arith, ℕ, refl, sym, ◌∙◌, ap, subst, Bool, true, false, cond, some, List, get_or, eqb, ltb, ℕ_discrete, dec_lt, eq-eqb, ne_eqb, ltb-true, lt-ltb, le-ltb, never}
use Rattle.std.proofs.Common.{mod-lt}
use Rattle.model.specs.Machine.{Move}
use Rattle.block.specs.Layout.{pair, waking, rule_output, rule_target, site_at, first_fault, mutated, diverted, choices_of, states_of, inputs_of, wake_at}
use Rattle.block.specs.Tabulated.{Wf, choices_at, stay_at, choice_of, chosen, rule_of, step_of, start_of, Ranged, StepIs}
use Rattle.block.specs.declared.layout.Step.{Step}

pub choice-waking : (m : List ℕ) (c : ℕ) → choice_of m waking c ≡ record { output = 0; target = wake_at m c }
unfolding choice_of
choice-waking m c = refl

not-waking : (k : ℕ) → k < 256 → eqb k waking ≡ false
not-waking k l = ne_eqb k waking (λ z. omega (arith, l, z))

pub choice-unruled : (m : List ℕ) (k c : ℕ) → k < 256 → rule_target m k ≡ 255 → (site_at m k ≡ 255 → ⊥)
    → choice_of m k c ≡ record { output = c / states_of m; target = c % states_of m }
unfolding choice_of
choice-unruled m k c l e n = rw (not-waking k l, eq-eqb _ _ e, ne_eqb _ _ n)

pub choice-stays : (m : List ℕ) (k c : ℕ) → k < 256 → rule_target m k ≡ 255 → site_at m k ≡ 255 → choice_of m k c ≡ stay_at m k
unfolding choice_of
choice-stays m k c l e f = rw (not-waking k l, eq-eqb _ _ e, eq-eqb _ _ f)

stay-low : (m : List ℕ) (k : ℕ) → 1 ≤ states_of m → (stay_at m k).target < states_of m
stay-low m k l = go (ltb (k / 16) (states_of m)) refl
  where
    go : (b : Bool) → ltb (k / 16) (states_of m) ≡ b → cond b (k / 16) 0 < states_of m
    go true e = ltb-true (k / 16) (states_of m) e
    go false e = l

pub choice-rule : (m : List ℕ) (k : ℕ) → k < 256 → (rule_target m k ≡ 255 → ⊥) → choice_of m k 0 ≡ record { output = rule_output m k; target = rule_target m k }
unfolding choice_of
choice-rule m k l n = rw (not-waking k l, ne_eqb _ _ n)

pub choice-fault : (m : List ℕ) (k c : ℕ) → k < 256 → (rule_target m k ≡ 255 → ⊥) → (c ≡ 0 → ⊥)
    → choice_of m k c ≡ record { output = mutated m (first_fault m k + c - 1); target = diverted m (first_fault m k + c - 1) }
unfolding choice_of
choice-fault m k c l n z = rw (not-waking k l, ne_eqb _ _ n, ne_eqb _ _ z)

pub choices-none : (m : List ℕ) (k : ℕ) → site_at m k ≡ 255 → choices_at m k ≡ 1
unfolding choices_at
choices-none m k e = rw (eq-eqb _ _ e)

pub choices-some : (m : List ℕ) (k : ℕ) → (site_at m k ≡ 255 → ⊥) → choices_at m k ≡ choices_of m (site_at m k)
unfolding choices_at
choices-some m k n = rw (ne_eqb _ _ n)

pub chosen_none : (m b : List ℕ) (k : ℕ) → site_at m k ≡ 255 → chosen m b k ≡ 0
unfolding chosen
chosen_none m b k e = rw (eq-eqb _ _ e)

pub chosen-some : (m b : List ℕ) (k : ℕ) → (site_at m k ≡ 255 → ⊥) → chosen m b k ≡ get_or b (site_at m k) 0
unfolding chosen
chosen-some m b k n = rw (ne_eqb _ _ n)

-- ---- a choice in range
pub choice-few : {m : List ℕ} (k c : ℕ) → Wf m → k < 257 → c < choices_at m k → c < 256
choice-few {m} k c wf lk lc = go (ℕ_discrete (site_at m k) 255)
  where
    go : Dec (site_at m k ≡ 255) → c < 256
    go (yes e) = omega (arith, choices-none m k e)
    go (no n) = omega (arith, choices-some m k n, wf.choices (site_at m k) (wf.sites k lk n))

pub choice-low : {m : List ℕ} (k c : ℕ) → Wf m → k < 257 → c < choices_at m k → (choice_of m k c).target < states_of m
choice-low {m} k c wf lk lc = go (dec_lt k 256)
  where
    unruled : k < 256 → rule_target m k ≡ 255 → Dec (site_at m k ≡ 255) → (choice_of m k c).target < states_of m
    unruled l e (yes f) = rw (choice-stays m k c l e f) (stay-low m k wf.some-states)
    unruled l e (no n) = rw (choice-unruled m k c l e n) (mod-lt c wf.some-states)

    at_pair : k < 256 → Dec (rule_target m k ≡ 255) → Dec (c ≡ 0) → (choice_of m k c).target < states_of m
    at_pair l (yes e) z = unruled l e (ℕ_discrete (site_at m k) 255)
    at_pair l (no n) (yes z) = rw (z, choice-rule m k l n) (wf.rules k l n)
    at_pair l (no n) (no z) = rw (choice-fault m k c l n z) (wf.targets (first_fault m k + c - 1) (omega (arith, wf.faults k c l n lc, z)))

    go : Dec (k < 256) → (choice_of m k c).target < states_of m
    go (yes l) = at_pair l (ℕ_discrete (rule_target m k) 255) (ℕ_discrete c 0)
    go (no n) =
        let e : k ≡ waking = omega (arith, n, lk) in
        rw (e, choice-waking m c) (wf.wakings c (subst (λ (j : ℕ). c < choices_at m j) e lc))

-- the choice of a pair that is no suspect
pub choice-lone : (m : List ℕ) (k : ℕ) → site_at m k ≡ 255 → 0 < choices_at m k
choice-lone m k e = omega (arith, choices-none m k e)

-- a choice of a suspect's pair
pub choice-at : (m : List ℕ) (k i c : ℕ) → site_at m k ≡ i → i < 32 → c < choices_of m i → c < choices_at m k
choice-at m k i c e l lc = rw (choices-some m k (λ z. omega (arith, e, z)), e) lc

-- the choice of a mutant
pub chosen-low : {m b : List ℕ} → Wf m → Ranged m b → (k : ℕ) → k < 257 → chosen m b k < choices_at m k
chosen-low {m} {b} wf r k l = go (ℕ_discrete (site_at m k) 255)
  where
    go : Dec (site_at m k ≡ 255) → chosen m b k < choices_at m k
    go (yes e) = rw (chosen_none m b k e) (choice-lone m k e)
    go (no n) = rw (chosen-some m b k n, choices-some m k n) (r.at (site_at m k) (wf.sites k l n))

-- ---- what `transition` answers
pub is-unruled : {m : List ℕ} (k c n : ℕ) (r : Step) → k < 256 → rule_target m k ≡ 255 → (site_at m k ≡ 255 → ⊥) → n ≡ states_of m
    → (1 ≤ n → c < 256 → (r.output ≡ c / n) × (r.target ≡ c % n)) → StepIs m k c r
is-unruled {m} k c n r lk e s en f = record {
  output = λ wf lc. rw (choice-unruled m k c lk e s, ← en) (f (omega (arith, en, wf.some-states)) (choice-few k c wf (omega (arith, lk)) lc)).0;
  target = λ wf lc. rw (choice-unruled m k c lk e s, ← en) (f (omega (arith, en, wf.some-states)) (choice-few k c wf (omega (arith, lk)) lc)).1;
}

pub is-staying : {m : List ℕ} (k c : ℕ) (r : Step) → k < 256 → rule_target m k ≡ 255 → site_at m k ≡ 255 → r.output ≡ 0 → r.target ≡ (stay_at m k).target → StepIs m k c r
is-staying {m} k c r l e f eo et = record { output = λ wf lc. rw (choice-stays m k c l e f) eo; target = λ wf lc. rw (choice-stays m k c l e f) et }

pub is-rule : {m : List ℕ} (k c : ℕ) (r : Step) → k < 256 → (rule_target m k ≡ 255 → ⊥) → c ≡ 0 → r.output ≡ rule_output m k → r.target ≡ rule_target m k → StepIs m k c r
is-rule {m} k c r l n z eo et = record { output = λ wf lc. rw (z, choice-rule m k l n) eo; target = λ wf lc. rw (z, choice-rule m k l n) et }

pub is-fault : {m : List ℕ} (k c f : ℕ) (r : Step) → k < 256 → (rule_target m k ≡ 255 → ⊥) → (c ≡ 0 → ⊥) → f ≡ first_fault m k + c - 1 → r.output ≡ mutated m f → r.target ≡ diverted m f → StepIs m k c r
is-fault {m} k c f r l n z ef eo et = record { output = λ wf lc. rw (choice-fault m k c l n z, ← ef) eo; target = λ wf lc. rw (choice-fault m k c l n z, ← ef) et }

pub is_none : {m : List ℕ} (k c f : ℕ) (r : Step) → k < 256 → (rule_target m k ≡ 255 → ⊥) → (c ≡ 0 → ⊥) → f ≡ first_fault m k + c - 1 → 256 ≤ f → StepIs m k c r
is_none {m} k c f r lk n z ef l = record
    { output = λ wf lc. absurd (omega (arith, wf.faults k c lk n lc)); target = λ wf lc. absurd (omega (arith, wf.faults k c lk n lc)) }

pub is-waking : {m : List ℕ} (k c : ℕ) (r : Step) → k ≡ waking → r.output ≡ 0 → (c < 16 → r.target ≡ wake_at m c) → StepIs m k c r
is-waking {m} k c r e eo et = record {
  output = λ wf lc. rw (e, choice-waking m c) eo;
  target = λ wf lc. rw (e, choice-waking m c) (et (omega (arith, wf.few-wakings, subst (λ (j : ℕ). c < choices_at m j) e lc)));
}

-- ---- the move of a mutant
pub step-inside : (m b : List ℕ) (q x : ℕ) → q < states_of m → x < inputs_of m → step_of m b q x ≡ choice_of m (pair q x) (chosen m b (pair q x))
unfolding step_of
step-inside m b q x lq lx = rw (lt-ltb _ _ lq, lt-ltb _ _ lx)

pub step-closed : (m b : List ℕ) (q x : ℕ) → q < states_of m → x < inputs_of m → site_at m (pair q x) ≡ 255 → step_of m b q x ≡ choice_of m (pair q x) 0
step-closed m b q x lq lx e = step-inside m b q x lq lx ∙ ap (λ (c : ℕ). choice_of m (pair q x) c) (chosen_none m b (pair q x) e)

pub step-open : (m b : List ℕ) (q x i : ℕ) → q < states_of m → x < inputs_of m → i < 32 → site_at m (pair q x) ≡ i → step_of m b q x ≡ choice_of m (pair q x) (get_or b i 0)
step-open m b q x i lq lx li e =
    step-inside m b q x lq lx ∙ ap (λ (c : ℕ). choice_of m (pair q x) c) (chosen-some m b (pair q x) (λ z. omega (arith, e, z)) ∙ ap (λ (j : ℕ). get_or b j 0) e)

-- ---- the specified move
pub record RuleAt (m : List ℕ) (s x : ℕ) (r : Move) : Type 0 where
  pub low : s < states_of m
  pub input : x < inputs_of m
  pub there : rule_target m (pair s x) ≡ 255 → ⊥
  pub output : r.output ≡ rule_output m (pair s x)
  pub target : r.target ≡ rule_target m (pair s x)

pub rule-at : (m : List ℕ) (s x : ℕ) (r : Move) → rule_of m s x ≡ some r → RuleAt m s x r
unfolding rule_of
rule-at m s x r e = go (dec_lt s (states_of m)) (dec_lt x (inputs_of m)) (ℕ_discrete (rule_target m (pair s x)) 255)
  where
    go : Dec (s < states_of m) → Dec (x < inputs_of m) → Dec (rule_target m (pair s x) ≡ 255) → RuleAt m s x r
    go (no n) lx z = let f = rw (le-ltb s (states_of m) (omega (arith, n))) at e in never (cc)
    go (yes l) (no n) z = let f = rw (lt-ltb _ _ l, le-ltb x (inputs_of m) (omega (arith, n))) at e in never (cc)
    go (yes l) (yes lx) (yes z) = let f = rw (lt-ltb _ _ l, lt-ltb _ _ lx, eq-eqb _ _ z) at e in never (cc)
    go (yes l) (yes lx) (no z) =
        let f = rw (lt-ltb _ _ l, lt-ltb _ _ lx, ne_eqb _ _ z) at e in
        let g : ◌≡◌ {A = Move} r (record { output = rule_output m (pair s x); target = rule_target m (pair s x) }) = cc in
        record { low = l; input = lx; there = z; output = ap (λ (y : Move). y.output) g; target = ap (λ (y : Move). y.target) g }

-- ---- the start of a mutant
pub start_is : (m b : List ℕ) → start_of m b ≡ (choice_of m waking (chosen m b waking)).target
unfolding start_of
start_is m b = refl

pub start-low : {m b : List ℕ} → Wf m → Ranged m b → start_of m b < states_of m
start-low {m} {b} wf r = rw (start_is m b) (choice-low waking (chosen m b waking) wf (omega arith) (chosen-low wf r waking (omega arith)))

-- the waking state of its choice
pub start-waked : (m b : List ℕ) (c t : ℕ) → Wf m → chosen m b waking ≡ c → (c < 16 → t ≡ wake_at m c) → chosen m b waking < choices_at m waking → t ≡ start_of m b
start-waked m b c t wf e et l = et (omega (arith, wf.few-wakings, e)) ∙ sym (start_is m b ∙ rw (e, choice-waking m c) refl)
