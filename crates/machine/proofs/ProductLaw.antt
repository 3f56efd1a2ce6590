-- The product of a specification and a machine: what an input does at a pair of states, and how the code finds it in the tables.
use Prim.Native.Nat.{ℕ, ◌+◌, ◌*◌, ◌/◌, ◌%◌, ◌<◌}
use native.Mathlib.Omega.{arith}
use mathlib.Core.Path.{◌≡◌, refl, sym, ap, ◌∙◌}
use mathlib.Core.Logic.{◌⊎◌, inl, inr}
use mathlib.Core.Bool.{Bool, true, false, cond}
use mathlib.Core.Option.{Option, none, some}
use mathlib.Core.List.{List}
use borrow.Author.Tests.{eq-eqb, ne_eqb, eqb-true, eqb-false, lt-ltb}
use lib.Dec.{eqb}
use lib.ListN.{get_or}
use Rattle.lists.specs.Lists.{maybe}
use Rattle.lists.specs.laws.TestLaw.{never}
use Rattle.model.specs.Machine.{Move, Pair}
use Rattle.model.proofs.laws.StaysLaw.{Closed}
use Rattle.block.specs.Layout.{pair, rule_output, rule_target, states_of, inputs_of}
use Rattle.block.specs.Tabulated.{rule_of}
use Rattle.block.specs.laws.ChoiceLaw.{rule-at}
use denote.Enum.Declared.{tag_of}
use Rattle.machine.specs.declared.product.Led.{Led}
use Rattle.machine.specs.declared.product.Led.TheVariants as led
use Rattle.machine.specs.contracts.product.Led.{the_type}
use Rattle.machine.specs.Product.{moves_in, tables, Valid, leads}
use Rattle.machine.specs.laws.LaidLaw.{move_at}

-- an input at a pair: there is a rule, and the machine's move shows another output or leads on
pub record Apart (m : Pair) (v x : ℕ) : Type 0 where
  pub rule : Move
  pub specified : m.rule (v / 16) x ≡ some rule
  pub differs : rule.output ≡ (m.move (v % 16) x).output → ⊥

pub record Onward (m : Pair) (v x w : ℕ) : Type 0 where
  pub rule : Move
  pub specified : m.rule (v / 16) x ≡ some rule
  pub same : rule.output ≡ (m.move (v % 16) x).output
  pub next : w ≡ pair rule.target (m.move (v % 16) x).target

-- by the tags of two variants, that it is not a third
pub other : (r s : Led) {i j : ℕ} → (tag_of the_type r ≡ i) ⊎ (tag_of the_type r ≡ j) → (tag_of the_type s ≡ i → ⊥) → (tag_of the_type s ≡ j → ⊥) → r ≡ s → ⊥
other r s (inl e) n m h = n (sym (ap (tag_of the_type) h) ∙ e)
other r s (inr e) n m h = m (sym (ap (tag_of the_type) h) ∙ e)

module _ (m : Pair) (v x : ℕ) where
  abbrev by-rule : Option Move → Led
  by-rule o = maybe o led.Undefined (λ r. cond (eqb r.output (m.move (v % 16) x).output) (led.To (pair r.target (m.move (v % 16) x).target)) led.Apart)

  pub leads-undefined : leads m v x ≡ led.Undefined → m.rule (v / 16) x ≡ none
  unfolding leads
  leads-undefined h = go (m.rule (v / 16) x) h
    where
      go : (o : Option Move) → by-rule o ≡ led.Undefined → o ≡ none
      go none e = refl
      go (some r) e = pick (eqb r.output (m.move (v % 16) x).output) e
        where
          pick : (b : Bool) → cond b (led.To (pair r.target (m.move (v % 16) x).target)) led.Apart ≡ led.Undefined → some r ≡ none
          pick true e' = never (cc)
          pick false e' = never (cc)

  pub leads-apart : leads m v x ≡ led.Apart → Apart m v x
  unfolding leads
  leads-apart h = go (m.rule (v / 16) x) refl h
    where
      go : (o : Option Move) → m.rule (v / 16) x ≡ o → by-rule o ≡ led.Apart → Apart m v x
      go none er e = never (cc)
      go (some r) er e = pick (eqb r.output (m.move (v % 16) x).output) refl e
        where
          pick : (b : Bool) → eqb r.output (m.move (v % 16) x).output ≡ b →
              cond b (led.To (pair r.target (m.move (v % 16) x).target)) led.Apart ≡ led.Apart → Apart m v x
          pick true eb e' = never (cc)
          pick false eb e' = record { rule = r; specified = er; differs = eqb-false r.output (m.move (v % 16) x).output eb }

  pub leads-to : {w : ℕ} → leads m v x ≡ led.To w → Onward m v x w
  unfolding leads
  leads-to {w} h = go (m.rule (v / 16) x) refl h
    where
      go : (o : Option Move) → m.rule (v / 16) x ≡ o → by-rule o ≡ led.To w → Onward m v x w
      go none er e = never (cc)
      go (some r) er e = pick (eqb r.output (m.move (v % 16) x).output) refl e
        where
          pick : (b : Bool) → eqb r.output (m.move (v % 16) x).output ≡ b →
              cond b (led.To (pair r.target (m.move (v % 16) x).target)) led.Apart ≡ led.To w → Onward m v x w
          pick true eb e' = record { rule = r; specified = er; same = eqb-true r.output (m.move (v % 16) x).output eb; next = cc }
          pick false eb e' = never (cc)

module _ {m targets : List ℕ} (valid : Valid m targets) where
  -- the place of a state and an input
  place-low : (s x : ℕ) → s < states_of m → x < inputs_of m → pair s x < 256
  place-low s x ls lx = omega (arith, valid.formed.few-states, valid.formed.few-inputs)

  pub closed : (start : ℕ) (outputs : List ℕ) → Closed (tables m start outputs targets)
  closed start outputs =
      record {
        input-below = λ s x r e. (rule-at m s x r e).input;
        rule-below = λ s x r l e.
            let h = rule-at m s x r e in
            rw h.target (valid.formed.rules (pair s x) (place-low s x l h.input) h.there);
        move-below = λ s x ls lx. rw (move_at m outputs targets s x ls lx) (valid.below s x ls lx);
      }

-- at a pair of states in range
module _ {m targets : List ℕ} (valid : Valid m targets) (outputs : List ℕ) (v x : ℕ) (lp : v / 16 < states_of m) (lq : v % 16 < states_of m) (lx : x < inputs_of m)
    {a s : ℕ} (ea : a ≡ pair (v / 16) x) (es : s ≡ rule_target m a) where
  pub undefined-here : s ≡ 255 → (start : ℕ) → led.Undefined ≡ leads (tables m start outputs targets) v x
  unfolding leads rule_of
  undefined-here e start =
      let none-there : rule_target m (pair (v / 16) x) ≡ 255 = rw (← ea) (sym es ∙ e) in
      rw (lt-ltb (v / 16) (states_of m) lp, lt-ltb x (inputs_of m) lx, eq-eqb _ _ none-there) refl

  module _ (ne : s ≡ 255 → ⊥) {b : ℕ} (eb : b ≡ pair (v % 16) x) where
    the-rule : rule_of m (v / 16) x ≡ some (record { output = rule_output m a; target = s })
    unfolding rule_of
    the-rule =
        let there : rule_target m (pair (v / 16) x) ≡ 255 → ⊥ = λ e. ne (es ∙ rw ea e) in
        rw (lt-ltb (v / 16) (states_of m) lp, lt-ltb x (inputs_of m) lx, ne_eqb _ _ there, es, ea) refl

    the-move : moves_in m outputs targets (v % 16) x ≡ record { output = get_or outputs b 0; target = get_or targets b 0 }
    the-move = rw eb (move_at m outputs targets (v % 16) x lq lx)

    -- the next states
    pub next_low : (s < 16) × (get_or targets b 0 < 16)
    next_low =
        let few = valid.formed.few-states in
        let rules = valid.formed.rules a (omega (arith, place-low valid (v / 16) x lp lx)) (λ e. ne (es ∙ e)) in
        let moves = valid.below (v % 16) x lq lx in
        (omega (arith, few), rw eb (omega (arith, few, moves)))

    pub apart-here : {o : ℕ} → o ≡ rule_output m a → (o ≡ get_or outputs b 0 → ⊥) → (start : ℕ) → led.Apart ≡ leads (tables m start outputs targets) v x
    unfolding leads
    apart-here eo d start = rw (the-rule, the-move, ← eo, ne_eqb _ _ d) refl

    pub onward-here : {o : ℕ} → o ≡ rule_output m a → o ≡ get_or outputs b 0 → (start : ℕ) →
        led.To (s * 16 + get_or targets b 0) ≡ leads (tables m start outputs targets) v x
    unfolding leads
    onward-here eo e start = rw (the-rule, the-move, ← eo, eq-eqb _ _ e) refl
