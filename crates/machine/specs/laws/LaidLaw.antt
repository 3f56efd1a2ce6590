-- Tables in which a mutant is laid out: they are its machine.
use Rattle.std.specs.Prelude.{ℕ, ◌*◌, ◌/◌, ◌%◌, ◌<◌, ◌≡◌, Bool, ◌&&◌, List}
use Rattle.std.proofs.Math.Decide.{ℕ_discrete}
use Rattle.std.proofs.Common.{arith, ap, ◌∙◌, subst}
use Rattle.std.proofs.Math.Path.{refl, sym, fun_ext}
use Rattle.std.proofs.Math.Logic.{by_cases}
use Rattle.std.proofs.Math.Bool.{true, false, cond}
use borrow.Author.Tests.{lt-ltb, ltb-true, ltb-false}
use Rattle.std.proofs.Math.Dec.{ltb}
use Rattle.std.proofs.Math.ListN.{get_or}
use Rattle.sheet.specs.Sheet.{Sheet}
use Rattle.model.specs.Machine.{Move}
use Rattle.model.specs.Mutant.{IsMutant, idle, step, initial, against}
use Rattle.model.proofs.laws.StaysLaw.{step_in}
use Rattle.model.proofs.laws.StepLaw.{step-outside}
use Rattle.block.specs.Layout.{pair, waking, site_at, states_of, inputs_of}
use Rattle.block.specs.Tabulated.{choice_of, chosen, step_of, start_of}
use Rattle.block.specs.Tabled.{Tabled}
use Rattle.block.specs.laws.ChoiceLaw.{chosen_none, chosen-some, chosen-low, start_is}
use Rattle.block.specs.laws.TabledLaw.{rule-same, step_same, start-same, ranged, slot-low, well-formed}
use Rattle.machine.specs.Laid.{Chosen, Settles, Moves}
use Rattle.machine.specs.Product.{moves_in, tables, Valid}

-- the machine at a state and an input in range
pub move_at : (m outputs targets : List ℕ) (s x : ℕ) → s < states_of m → x < inputs_of m →
    moves_in m outputs targets s x ≡ record { output = get_or outputs (pair s x) 0; target = get_or targets (pair s x) 0 }
unfolding moves_in
move_at m outputs targets s x ls lx = rw (lt-ltb s (states_of m) ls, lt-ltb x (inputs_of m) lx) refl

-- the choices of a mutant
module _ {sh : Sheet} {m : List ℕ} (tb : Tabled sh m) {b : List ℕ} (is : IsMutant sh b) {p : List ℕ} (st : Settles sh p b) where
  chosen-same : (k : ℕ) → k < 257 → chosen m p k ≡ chosen m b k
  chosen-same k l =
      by_cases (ℕ_discrete (site_at m k) 255)
      (λ e. chosen_none m p k e ∙ sym (chosen_none m b k e))
      (λ ne. chosen-some m p k ne ∙ st.at (site_at m k) (slot-low tb k l ne) ∙ sym (chosen-some m b k ne))

  pub settled-chosen : Chosen m p
  settled-chosen = record { at = λ k l. rw (chosen-same k l) (chosen-low (well-formed tb) (ranged tb b is) k l) }

  pub settled-start : start_of m p ≡ initial sh b
  settled-start = start_is m p ∙ ap (λ (c : ℕ). (choice_of m waking c).target) (chosen-same waking (omega arith)) ∙ sym (start_is m b) ∙ start-same tb b is

  step-there : (s x : ℕ) → step_of m p s x ≡ step_of m b s x
  unfolding step_of
  step-there s x = go (ltb s (states_of m)) refl (ltb x (inputs_of m)) refl
    where
      go : (c : Bool) → ltb s (states_of m) ≡ c → (d : Bool) → ltb x (inputs_of m) ≡ d →
          cond (c && d) (choice_of m (pair s x) (chosen m p (pair s x))) idle ≡ cond (c && d) (choice_of m (pair s x) (chosen m b (pair s x))) idle
      go true ec true ed = rw (chosen-same (pair s x) (omega (arith, ltb-true s (states_of m) ec, ltb-true x (inputs_of m) ed, (well-formed tb).few-states, (well-formed tb).few-inputs))) refl
      go true ec false ed = refl
      go false ec d ed = refl

  -- laid out, they are the mutant's moves
  pub settled-moves : {outputs targets : List ℕ} → Moves (step_of m p) outputs targets (16 * states_of m) → Moves (step sh b) outputs targets (16 * sh.size.states)
  settled-moves {outputs} {targets} h =
      subst (λ (n : ℕ). Moves (step sh b) outputs targets (16 * n)) tb.states
      (subst (λ (f : ℕ → ℕ → Move). Moves f outputs targets (16 * states_of m)) (fun_ext (λ s. fun_ext (λ x. step-there s x)) ∙ step_same tb b is) h)

module _ {sh : Sheet} {m : List ℕ} (tb : Tabled sh m) (b : List ℕ) {outputs targets : List ℕ} (moved : Moves (step sh b) outputs targets (16 * sh.size.states)) where
  move-here : (s x : ℕ) → s < states_of m → x < inputs_of m → record { output = get_or outputs (pair s x) 0; target = get_or targets (pair s x) 0 } ≡ step sh b s x
  move-here s x ls lx =
      let e : pair s x / 16 ≡ s = omega (arith, (well-formed tb).few-inputs) in
      let f : pair s x % 16 ≡ x = omega (arith, (well-formed tb).few-inputs) in
      let l : pair s x < 16 * sh.size.states = omega (arith, tb.states, (well-formed tb).few-inputs) in
      rw (moved.output (pair s x) l, moved.target (pair s x) l, e, f) refl

  move_same : (s x : ℕ) → moves_in m outputs targets s x ≡ step sh b s x
  unfolding moves_in
  move_same s x = go (ltb s (states_of m)) refl (ltb x (inputs_of m)) refl
    where
      go : (c : Bool) → ltb s (states_of m) ≡ c → (d : Bool) → ltb x (inputs_of m) ≡ d →
          cond (c && d) (record { output = get_or outputs (pair s x) 0; target = get_or targets (pair s x) 0 }) idle ≡ step sh b s x
      go true ec true ed = move-here s x (ltb-true s (states_of m) ec) (ltb-true x (inputs_of m) ed)
      go true ec false ed = sym (step-outside sh b s x (λ l lx. omega (arith, ltb-false x (inputs_of m) ed, tb.inputs)))
      go false ec d ed = sym (step-outside sh b s x (λ l lx. omega (arith, ltb-false s (states_of m) ec, tb.states)))

  pub moves-step : moves_in m outputs targets ≡ step sh b
  moves-step = fun_ext (λ s. fun_ext (λ x. move_same s x))

  -- so every contract over the tables is one over the sheet and the mutant
  pub tables-against : (start : ℕ) → start ≡ initial sh b → tables m start outputs targets ≡ against sh b
  tables-against start es = λ i. record { states = tb.states i; inputs = tb.inputs i; start = es i; rule = rule-same tb i; move = moves-step i }

  pub tables-valid : Valid m targets
  tables-valid =
      record {
        formed = well-formed tb;
        below = λ s x ls lx. rw tb.states (subst (λ (t : Move). t.target < sh.size.states) (sym (move-here s x ls lx)) (step_in sh tb.formed b s x).target);
      }
