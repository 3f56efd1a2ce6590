-- Along a record byte by byte: its commands, and the specification's state.
use Rattle.std.specs.Prelude.{◌+◌, ◌-◌, ◌%◌, ◌<◌, ◌≤◌, ◌≡◌, ◌&&◌, ◌∷◌, Option as Maybe, Some, None}
use Rattle.lists.specs.Proving.{arith, ℕ_discrete, dec_lt, ℕ, suc, refl, sym, ◌∙◌, ap, ap₂, Bool, true, false, cond, Option, some, none, List, [], length, get_or, take, drop, drop-cons, add-one, eqb, eq-eqb, ne_eqb, ltb, lt-ltb, le-ltb, ltb-true}
use Rattle.lists.specs.laws.TestLaw.{both}
use mathlib.Core.Bool.{not}
use lib.ListN.{length-drop, drop_of_length-le}
use lib.Seq.{drop-drop, take_all}
use Rattle.lists.specs.Options.{coded, meant}
use Rattle.model.specs.Machine.{Move}
use Rattle.block.specs.declared.layout.Step.{Step}
use Rattle.block.specs.Layout.{pair, states_of, inputs_of, rule_output, rule_target}
use Rattle.block.specs.Tabulated.{rule_of, Wf}
use Rattle.records.specs.Record.{in_range, broken_from, specified_at, differs_from}
use Rattle.records.specs.Steps.{whole_answer, TakesBytes, move_by, Steps}
use Rattle.records.specs.declared.differ.Stepped.{Stepped}

-- the byte at an offset, and what follows it
suffix : (log : List ℕ) (at : ℕ) → at < length log → drop at log ≡ get_or log at 0 ∷ drop (at + 1) log
suffix log at l = rw add-one (drop-cons log at 0 l)

-- the slice that follows it
tail : (log : List ℕ) (at : ℕ) → take (length log - (at + 1)) (drop (at + 1) log) ≡ drop (at + 1) log
tail log at = take_all (length log - (at + 1)) (drop (at + 1) log) (omega (arith, length-drop (at + 1) log))

-- ---- commands
module _ (k m : ℕ) (v : ℕ) (rest : List ℕ) where
  skipped : (a : ℕ) (l : List ℕ) → 1 < length l → broken_from k m true 2 a l ≡ broken_from k m true 0 (a + 2) (drop 2 l)
  unfolding broken_from
  skipped a [] h = absurd (omega arith)
  skipped a (x ∷ []) h = absurd (omega arith)
  skipped a (x ∷ o ∷ l) h = ap (λ (n : ℕ). broken_from k m true 0 n l) (omega arith)

  pub takes-pulse : (pulsed : Bool) → v ≡ 16 → TakesBytes k m pulsed v rest 1
  unfolding broken_from
  takes-pulse pulsed e =
      record {
        whole = λ at. rw e (ap (λ (n : ℕ). broken_from k m true 0 n rest) (omega arith));
        inside = omega arith;
        some = omega arith;
      }

  -- a SEEN in range is whole
  pub takes-seen : (pulsed : Bool) → v ≡ 17 → pulsed ≡ true → in_range k m rest ≡ true → TakesBytes k m pulsed v rest 3
  unfolding broken_from
  takes-seen pulsed e p r =
      let h = both (ltb 1 (length rest) && ltb (get_or rest 0 0) k) (ltb (get_or rest 1 0) m) r in
      let g = both (ltb 1 (length rest)) (ltb (get_or rest 0 0) k) h.0 in
      let long : 1 < length rest = ltb-true 1 (length rest) g.0 in
      record {
        whole = λ at. let three : suc at + 2 ≡ at + 3 = omega arith in rw (e, p, r) (skipped (suc at) rest long ∙ ap (λ (n : ℕ). broken_from k m true 0 n (drop 2 rest)) three);
        inside = omega arith;
        some = omega arith;
      }

  -- no command: an unknown byte, a SEEN before any PULSE, one out of range
  takes-none : (pulsed : Bool) → (v ≡ 16 → ⊥) → eqb v 17 && pulsed && in_range k m rest ≡ false → (at : ℕ) → broken_from k m pulsed 0 at (v ∷ rest) ≡ some at
  unfolding broken_from
  takes-none pulsed n f at = rw (ne_eqb v 16 n, f) refl

  pub takes-unknown : (pulsed : Bool) → (v ≡ 16 → ⊥) → (v ≡ 17 → ⊥) → (at : ℕ) → broken_from k m pulsed 0 at (v ∷ rest) ≡ some at
  takes-unknown pulsed n u = takes-none pulsed n (rw (ne_eqb v 17 u) refl)

  pub takes-early : (pulsed : Bool) → (v ≡ 16 → ⊥) → pulsed ≡ false → (at : ℕ) → broken_from k m pulsed 0 at (v ∷ rest) ≡ some at
  takes-early pulsed n f = takes-none pulsed n (rw f (go (eqb v 17)))
    where
      go : (b : Bool) → b && false && in_range k m rest ≡ false
      go true = refl
      go false = refl

  pub takes-over : (pulsed : Bool) → (v ≡ 16 → ⊥) → in_range k m rest ≡ false → (at : ℕ) → broken_from k m pulsed 0 at (v ∷ rest) ≡ some at
  takes-over pulsed n f = takes-none pulsed n (rw f (go (eqb v 17 && pulsed)))
    where
      go : (b : Bool) → b && false ≡ false
      go true = refl
      go false = refl

-- ---- the specification
module _ {m : List ℕ} (wf : Wf m) (s x : ℕ) where
  pub rule-there : s < states_of m → x < inputs_of m → {k : ℕ} → k ≡ pair (s % 16) (x % 16) → {o t : ℕ} → o ≡ rule_output m k → t ≡ rule_target m k → (t ≡ 255 → ⊥) →
      move_by (Some (record { output = o; target = t })) ≡ specified_at (rule_of m) (some s) x
  unfolding rule_of
  rule-there ls lx {k} ek {o} {t} eo et n =
      let es : s % 16 ≡ s = omega (arith, wf.few-states) in
      let ex : x % 16 ≡ x = omega (arith, wf.few-inputs) in
      let e : pair s x ≡ k = ap₂ pair (sym es) (sym ex) ∙ sym ek in
      rw (lt-ltb s (states_of m) ls, lt-ltb x (inputs_of m) lx, e, ne_eqb (rule_target m k) 255 (λ z. n (et ∙ z)), eo, et) refl

  pub rule-unset : s < states_of m → x < inputs_of m → {k : ℕ} → k ≡ pair (s % 16) (x % 16) → {t : ℕ} → t ≡ rule_target m k → t ≡ 255 → none ≡ specified_at (rule_of m) (some s) x
  unfolding rule_of
  rule-unset ls lx {k} ek {t} et z =
      let es : s % 16 ≡ s = omega (arith, wf.few-states) in
      let ex : x % 16 ≡ x = omega (arith, wf.few-inputs) in
      let e : pair s x ≡ k = ap₂ pair (sym es) (sym ex) ∙ sym ek in
      rw (lt-ltb s (states_of m) ls, lt-ltb x (inputs_of m) lx, e, eq-eqb (rule_target m k) 255 (sym et ∙ z)) refl

  pub no-state : states_of m ≤ s → none ≡ specified_at (rule_of m) (some s) x
  unfolding rule_of
  no-state l = rw (le-ltb s (states_of m) l) refl

  pub no-input : s < states_of m → inputs_of m ≤ x → none ≡ specified_at (rule_of m) (some s) x
  unfolding rule_of
  no-input ls l = rw (lt-ltb s (states_of m) ls, le-ltb x (inputs_of m) l) refl

-- one byte
module _ (rule : ℕ → ℕ → Option Move) (p : Option ℕ) (v : ℕ) (rest : List ℕ) where
  pub steps-pulse : v ≡ 16 → Steps rule p v rest (record { wrong = false; state = Some 0 })
  steps-pulse e = rw e (record { wrong = refl; state = refl })

  pub steps-other : (v ≡ 16 → ⊥) → (v ≡ 17 → ⊥) → (s : Maybe ℕ) → meant s ≡ p → Steps rule p v rest (record { wrong = false; state = s })
  steps-other n k s e = record { wrong = rw (ne_eqb v 17 k) refl; state = rw (ne_eqb v 16 n, ne_eqb v 17 k) e }

  module _ (e : v ≡ 17) {r : Maybe Step} {x o : ℕ} (ex : x ≡ get_or rest 0 0) (eo : o ≡ get_or rest 1 0) (is : move_by r ≡ specified_at rule p x) where
    there : {q : Maybe Step} → r ≡ q → specified_at rule p (get_or rest 0 0) ≡ move_by q
    there er = ap (specified_at rule p) (sym ex) ∙ sym is ∙ ap move_by er

    pub steps-undefined : r ≡ None → Steps rule p v rest (record { wrong = false; state = None })
    steps-undefined er = let h = there er in rw e (record { wrong = rw h refl; state = rw h refl })

    pub steps-seen : {q : Step} → r ≡ Some q → (b : Bool) → b ≡ not (eqb q.output o) → Steps rule p v rest (record { wrong = b; state = Some q.target })
    steps-seen er b eb = let h = there er in rw e (record { wrong = rw h (eb ∙ rw eo refl); state = rw h refl })

-- ---- the loops
pub record Commands (k m : ℕ) (log : List ℕ) (at : ℕ) (pulsed : Bool) : Type 0 where
  pub inside : at ≤ length log
  pub is : broken_from k m false 0 0 log ≡ broken_from k m pulsed 0 at (drop at log)

pub record Compared (rule : ℕ → ℕ → Option Move) (log : List ℕ) (state : Maybe ℕ) (at : ℕ) : Type 0 where
  pub inside : at ≤ length log
  pub is : differs_from rule none 0 log ≡ differs_from rule (meant state) at (drop at log)

module _ {k m : ℕ} {log : List ℕ} {at : ℕ} {pulsed : Bool} (c : Commands k m log at pulsed) where
  pub commands-end : length log ≤ at → whole_answer none ≡ whole_answer (broken_from k m false 0 0 log)
  unfolding broken_from
  commands-end l = rw (c.is, drop_of_length-le log l) refl

  module _ (l : at < length log) where
    pub commands-broken : ((i : ℕ) → broken_from k m pulsed 0 i (get_or log at 0 ∷ drop (at + 1) log) ≡ some i) → whole_answer (some at) ≡ whole_answer (broken_from k m false 0 0 log)
    commands-broken b = rw (c.is, suffix log at l, b at) refl

    module _ {n : ℕ} (t : TakesBytes k m pulsed (get_or log at 0) (drop (at + 1) log) n) where
      long : n + at ≤ length log
      long = omega (arith, t.inside, length-drop (at + 1) log)

      pub commands-on : at + n ≤ length log
      commands-on = omega (arith, long)

      pub commands-more : Commands k m log (at + n) true
      commands-more =
          record {
            inside = commands-on;
            is = c.is ∙ ap (broken_from k m pulsed 0 at) (suffix log at l) ∙ t.whole at ∙ ap (λ (r : List ℕ). broken_from k m true 0 (at + n) r) (ap (drop n) (sym (suffix log at l)) ∙ drop-drop n at log);
          }

module _ {rule : ℕ → ℕ → Option Move} {log : List ℕ} {state : Maybe ℕ} {at : ℕ} (c : Compared rule log state at) where
  pub compared-end : length log ≤ at → None ≡ coded (differs_from rule none 0 log)
  unfolding differs_from
  compared-end l = rw (c.is, drop_of_length-le log l) refl

  module _ (l : at < length log) {r : Stepped} (ts : Steps rule (meant state) (get_or log at 0) (take (length log - (at + 1)) (drop (at + 1) log)) r) where
    t : Steps rule (meant state) (get_or log at 0) (drop (at + 1) log) r
    t = rw (tail log at) at ts

    pub compared-wrong : r.wrong ≡ true → Some at ≡ coded (differs_from rule none 0 log)
    unfolding differs_from
    compared-wrong w = rw (c.is, suffix log at l, sym t.wrong, w) refl

    pub compared-more : r.wrong ≡ false → Compared rule log r.state (at + 1)
    unfolding differs_from
    compared-more w =
        record {
          inside = omega arith;
          is = c.is ∙ rw (suffix log at l, sym t.wrong, w, sym t.state) (ap (λ (n : ℕ). differs_from rule (meant r.state) n (drop (at + 1) log)) (omega arith));
        }
