-- The block that holds a sheet's tables has the sheet's specification and mutants.
use Rattle.std.specs.Prelude.{◌+◌, ◌-◌, ◌/◌, ◌%◌, ◌<◌, ◌≤◌, ◌≡◌, ◌&&◌, ◌∷◌}
use Rattle.lists.specs.Proving.{arith, ℕ, zero, suc, refl, sym, ◌∙◌, ap, Bool, true, false, cond, by_cases, Option, some, none, List, [], length, get_or, replicate, List·getD-eq-default, eqb, ltb, ℕ_discrete, dec_lt, ne_eqb, ltb-true, lt-ltb, never}
use Rattle.std.proofs.Math.Path.{fun_ext}
use Rattle.sheet.specs.declared.Row.{Row}
use Rattle.lists.specs.Lists.{maybe, is_none, first}
use Rattle.sheet.specs.Sheet.{Sheet, rows_at, rule_at, unruled_choices, choices_at as choices_in, is_open, waking_choices, waking_slots}
use Rattle.sheet.specs.Tables.{first_at, first_fault as first_row, no_row}
use Rattle.sheet.specs.laws.TablesLaw.{fault-at, fault-below}
use Rattle.sheet.specs.laws.WakingLaw.{waking-in, most-wakings, some-waking}
use Rattle.sheet.specs.WellFormed.{RowIn, WellFormed}
use Rattle.model.specs.Machine.{Move}
use Rattle.model.specs.Mutant.{move_of, rule, transitions, Suspect, suspects, slots, site_of, start_slot, IsMutant, idle, step, initial, against}
use Rattle.model.specs.Log.{GivesLog}
use Rattle.lists.specs.laws.AllLaw.{all-every, all-imp, all_map, all_append, all_replicate, all_get_d}
use Rattle.model.proofs.laws.StaysLaw.{rule-row, rule-in}
use Rattle.model.proofs.laws.SuspectLaw.{slots_before, slot-count, site-none, site-open, site-is, site-one, site-outside, waking-slot, waking-apart}
use Rattle.model.proofs.laws.TransitionLaw.{rule-choice, fault-choice, unruled-choice, only-choice, open-unruled, shut-unruled, choices-few, choices-some as some-choice}
use Rattle.model.proofs.laws.OperationLaw.{mutant-length, in-range-at}
use Rattle.model.proofs.laws.StepLaw.{step-at, step-outside, choice-below, choice_of as choice_at}
use Rattle.block.specs.Layout.{pair, waking, rule_output, rule_target, site_at, first_fault, mutated, diverted, choices_of}
use Rattle.block.specs.Tabulated.{choices_at, choice_of, chosen, rule_of, step_of, start_of, pair_of, Ranged, Wf}
use Rattle.block.specs.Logged.{GivesOf, observations}
use Rattle.block.specs.Tabled.{Tabled}
use Rattle.block.specs.laws.ChoiceLaw.{choice-waking, choice-unruled, choice-stays, choice-rule, choice-fault, choices-none, choices-some, chosen_none, chosen-some, start_is}

-- ---- numbers

pub get_d_default : (l : List ℕ) (i d e : ℕ) → i < length l → get_or l i d ≡ get_or l i e
get_d_default [] i d e h = absurd (omega arith)
get_d_default (x ∷ l) zero d e h = refl
get_d_default (x ∷ l) (suc i) d e h = get_d_default l i d e (omega arith)

module _ (sh : Sheet) (wf : WellFormed sh) where
  -- an index of a fault is a byte
  pub first-less : (s x : ℕ) → first_row sh.faults s x < 256
  unfolding first_row
  first-less s x = go (rows_at sh.faults s x) refl
    where
      go : (rs : List Row) → rows_at sh.faults s x ≡ rs → cond (is_none (first rs)) 0 (first_at sh.faults s x) < 256
      go [] e = omega arith
      go (r ∷ rs) e =
          let l : first_at sh.faults s x + 0 < length sh.faults = rw e at (fault-below s x wf 0 (rw e (omega arith))) in
          omega (arith, wf.few-faults)

  fault-few : (s x c : ℕ) → c < suc (length (rows_at sh.faults s x)) → first_row sh.faults s x + c ≤ 256
  fault-few s x zero l = omega (arith, first-less s x)
  fault-few s x (suc c) l = omega (arith, fault-below s x wf c (omega arith), wf.few-faults)

  -- what holds of the number of waking states and of the number of choices of each pair holds of those of a mutant's bytes
  slot-each : (P : ℕ → Type 0) → P (waking_choices sh) → ((s x : ℕ) → P (choices_in sh s x)) → P 1 → (i : ℕ) → P (get_or (slots sh) i 1)
  unfolding slots
  slot-each P w h o i =
      all_get_d P (slots sh) i 1
      (all_append P (replicate (waking_slots sh) (waking_choices sh)) _ (all_replicate P (waking_slots sh) (waking_choices sh) w)
      (all_map P (λ (u : Suspect). choices_in sh u.state u.input) (suspects sh)
      (all-every (λ (u : Suspect). P (choices_in sh u.state u.input)) (λ u. h u.state u.input) (suspects sh))))
      o

  -- a byte of a mutant has at most 256 choices, and one at least
  pub slot-few : (i : ℕ) → get_or (slots sh) i 1 ≤ 256
  slot-few = slot-each (λ (c : ℕ). c ≤ 256) (omega (arith, most-wakings wf)) (choices-few sh wf) (omega arith)

  pub slot-some : (i : ℕ) → 1 ≤ get_or (slots sh) i 1
  slot-some = slot-each (λ (c : ℕ). 1 ≤ c) (some-waking sh) (some-choice sh wf) (omega arith)

module _ {sh : Sheet} {m : List ℕ} (bl : Tabled sh m) where
  wf : WellFormed sh
  wf = bl.formed

  -- a state and an input of the sheet
  record Here (s x : ℕ) : Type 0 where
    low : pair s x < 256
    state : pair s x / 16 ≡ s
    input : pair s x % 16 ≡ x
    in-states : s < sh.size.states
    in-inputs : x < sh.size.inputs

  here : (s x : ℕ) → s < sh.size.states → x < sh.size.inputs → Here s x
  here s x ls lx =
      let a = wf.size.states.few in
      let b = wf.size.inputs.few in
      record { low = omega arith; state = omega arith; input = omega arith; in-states = ls; in-inputs = lx }

  -- ---- the specification

  target_at : (s x : ℕ) → Here s x → rule_target m (pair s x) ≡ maybe (rule_at sh.rules s x) 255 (λ r. r.target)
  target_at s x h = bl.targets (pair s x) h.low ∙ rw (h.state, h.input) refl

  output-at : (s x : ℕ) → Here s x → rule_output m (pair s x) ≡ maybe (rule_at sh.rules s x) 255 (λ r. r.output)
  output-at s x h = bl.outputs (pair s x) h.low ∙ rw (h.state, h.input) refl

  rule-target-low : (s x : ℕ) (r : Row) → rule_at sh.rules s x ≡ some r → r.target ≡ 255 → ⊥
  rule-target-low s x r e f = let a = wf.size.states.few in omega (arith, (rule-row sh wf s x r e).row.target)

  -- outside the sheet's states and inputs there is no rule
  pub rule-none : (s x : ℕ) → (s < sh.size.states → x < sh.size.inputs → ⊥) → rule sh s x ≡ none
  rule-none s x out = go (rule sh s x) refl
    where
      go : (o : Option Move) → rule sh s x ≡ o → o ≡ none
      go none e = refl
      go (some t) e = absurd (out (rule-in sh wf s x t e).state (rule-in sh wf s x t e).input)

  rule-at : (s x : ℕ) → rule_of m s x ≡ rule sh s x
  unfolding rule_of rule
  rule-at s x = rw (bl.states, bl.inputs) (go (ltb s sh.size.states) refl (ltb x sh.size.inputs) refl)
    where
      inside : Here s x → (o : Option Row) → rule_at sh.rules s x ≡ o →
          cond (eqb (rule_target m (pair s x)) 255) none (some (record { output = rule_output m (pair s x); target = rule_target m (pair s x) })) ≡ maybe o none (λ r. some (move_of r))
      inside h none e = rw (target_at s x h, e) refl
      inside h (some r) e = rw (target_at s x h, output-at s x h, e, ne_eqb r.target 255 (rule-target-low s x r e)) refl

      go : (c : Bool) → ltb s sh.size.states ≡ c → (d : Bool) → ltb x sh.size.inputs ≡ d →
          cond (c && d) (cond (eqb (rule_target m (pair s x)) 255) none (some (record { output = rule_output m (pair s x); target = rule_target m (pair s x) }))) none
          ≡ maybe (rule_at sh.rules s x) none (λ r. some (move_of r))
      go true ec true ed = inside (here s x (ltb-true s sh.size.states ec) (ltb-true x sh.size.inputs ed)) (rule_at sh.rules s x) refl
      go true ec false ed = sym (rule-none s x (λ ls lx. never (cc (lt-ltb x sh.size.inputs lx))))
      go false ec d ed = sym (rule-none s x (λ ls lx. never (cc (lt-ltb s sh.size.states ls))))

  -- the block's rules are the sheet's
  pub rule-same : rule_of m ≡ rule sh
  rule-same = fun_ext (λ s. fun_ext (λ x. rule-at s x))

  -- ---- the mutants

  site-at : (s x : ℕ) → Here s x → site_at m (pair s x) ≡ maybe (site_of sh s x) 255 (λ i. i)
  site-at s x h = bl.sites (pair s x) h.low ∙ rw (h.state, h.input) refl

  few-slots : length (slots sh) ≤ 32
  few-slots = omega (arith, slot-count sh, wf.few-open)

  -- a byte of a mutant is one of 32
  pub site-low : (s x i : ℕ) → site_of sh s x ≡ some i → i < 32
  site-low s x i e = omega (arith, (site-is sh s x i e).0, few-slots)

  -- a suspect's state and input are the sheet's
  site-in : (s x i : ℕ) → site_of sh s x ≡ some i → (s < sh.size.states) × (x < sh.size.inputs)
  site-in s x i e =
      by_cases (dec_lt s sh.size.states)
      (λ ls. by_cases (dec_lt x sh.size.inputs) (λ lx. (ls, lx)) (λ nx. outside (λ hs hx. nx hx)))
      (λ ns. outside (λ hs hx. ns hs))
    where
      outside : (s < sh.size.states → x < sh.size.inputs → ⊥) → (s < sh.size.states) × (x < sh.size.inputs)
      outside out = let none-there = site-outside sh s x out in never (cc)

  chosen_at : (b : List ℕ) (s x : ℕ) → Here s x → chosen m b (pair s x) ≡ choice_at sh b s x
  chosen_at b s x h = go (site_of sh s x) refl
    where
      go : (o : Option ℕ) → site_of sh s x ≡ o → chosen m b (pair s x) ≡ maybe o zero (λ i. get_or b i 0)
      go none e = chosen_none m b (pair s x) (site-at s x h ∙ rw e refl)
      go (some i) e =
          let is : site_at m (pair s x) ≡ i = site-at s x h ∙ rw e refl in
          chosen-some m b (pair s x) (λ z. omega (arith, site-low s x i e)) ∙ rw is refl

  first-at : (s x : ℕ) → Here s x → first_fault m (pair s x) ≡ first_row sh.faults s x
  first-at s x h = bl.firsts (pair s x) h.low ∙ rw (h.state, h.input) refl

  -- fault f of the sheet, where the block has it
  fault-move : (f : ℕ) → f < 256 → record { output = mutated m f; target = diverted m f } ≡ move_of (get_or sh.faults f no_row)
  fault-move f l = rw (bl.fault-outputs f l, bl.fault-targets f l) refl

  choice-at : (s x c : ℕ) → Here s x → c < choices_in sh s x → choice_of m (pair s x) c ≡ get_or (transitions sh s x) c idle
  unfolding choices_in
  choice-at s x c h l = go (rule_at sh.rules s x) refl l
    where
      -- without a rule: a suspect has every transition, another pair stays
      unruled : rule_at sh.rules s x ≡ none → c < unruled_choices sh → (b : Bool) → is_open sh s x ≡ b → choice_of m (pair s x) c ≡ get_or (transitions sh s x) c idle
      unruled e k true o =
          let site : site_at m (pair s x) ≡ slots_before sh s x = site-at s x h ∙ rw (site-open sh s x h.in-states h.in-inputs o) refl in
          let low = site-low s x (slots_before sh s x) (site-open sh s x h.in-states h.in-inputs o) in
          choice-unruled m (pair s x) c h.low (target_at s x h ∙ rw e refl) (λ z. omega (arith, site, low, z))
          ∙ rw bl.states (sym (unruled-choice sh s x c e (open-unruled sh s x e o) k))
      unruled e k false o =
          let one = shut-unruled sh wf s x e o in
          let z : c ≡ 0 = omega (arith, one) in
          choice-stays m (pair s x) c h.low (target_at s x h ∙ rw e refl) (site-at s x h ∙ rw (site-none sh s x o) refl)
          ∙ rw (h.state, bl.states, lt-ltb s sh.size.states h.in-states, z) (sym (only-choice sh s x e h.in-states one))

      ruled : (r : Row) → rule_at sh.rules s x ≡ some r → (rule_target m (pair s x) ≡ 255 → ⊥) → (d : ℕ) → d < suc (length (rows_at sh.faults s x)) →
          choice_of m (pair s x) d ≡ get_or (transitions sh s x) d idle
      ruled r e ne zero k = choice-rule m (pair s x) h.low ne ∙ rw (target_at s x h, output-at s x h, e) (sym (rule-choice sh s x r e))
      ruled r e ne (suc d) k =
          let h' : d < length (rows_at sh.faults s x) = omega arith in
          let f : first_fault m (pair s x) + suc d - 1 ≡ first_row sh.faults s x + d = omega (arith, first-at s x h) in
          choice-fault m (pair s x) (suc d) h.low ne (λ z. omega arith)
          ∙ rw f (fault-move (first_row sh.faults s x + d) (omega (arith, fault-below s x wf d h', wf.few-faults)))
          ∙ ap move_of (sym (fault-at s x wf d h')) ∙ sym (fault-choice sh s x d r e)

      go : (o : Option Row) → rule_at sh.rules s x ≡ o → c < maybe o (unruled_choices sh) (λ r. suc (length (rows_at sh.faults s x))) →
          choice_of m (pair s x) c ≡ get_or (transitions sh s x) c idle
      go none e k = unruled e k (is_open sh s x) refl
      go (some r) e k = ruled r e (λ z. rule-target-low s x r e (sym (target_at s x h ∙ rw e refl) ∙ z)) c k

  -- ---- the waking state

  -- its byte, if it has one
  waking-some : (site_at m waking ≡ 255 → ⊥) → start_slot sh ≡ some (site_at m waking)
  waking-some ne = go (start_slot sh) refl
    where
      go : (o : Option ℕ) → start_slot sh ≡ o → o ≡ some (site_at m waking)
      go none e = absurd (ne (bl.waking-site ∙ rw e refl))
      go (some i) e = ap (λ j. some j) (sym (bl.waking-site ∙ rw e refl))

  -- and how many choices
  waking-choices : choices_at m waking ≤ waking_choices sh
  waking-choices = by_cases (ℕ_discrete (site_at m waking) 255) (λ e. omega (arith, choices-none m waking e, some-waking sh)) (λ ne. several ne)
    where
      several : (site_at m waking ≡ 255 → ⊥) → choices_at m waking ≤ waking_choices sh
      several ne =
          let i = site_at m waking in
          let is = waking-slot sh i (waking-some ne) in
          let at : choices_of m i ≡ waking_choices sh = bl.choices i (omega (arith, is.0)) ∙ get_d_default (slots sh) i 1 0 is.1 ∙ is.2 in
          omega (arith, choices-some m waking ne)

  chosen-waking : (b : List ℕ) → chosen m b waking ≡ maybe (start_slot sh) zero (λ i. get_or b i 0)
  chosen-waking b = go (start_slot sh) refl
    where
      go : (o : Option ℕ) → start_slot sh ≡ o → chosen m b waking ≡ maybe o zero (λ i. get_or b i 0)
      go none e = chosen_none m b waking (bl.waking-site ∙ rw e refl)
      go (some i) e =
          let is : site_at m waking ≡ i = bl.waking-site ∙ rw e refl in
          chosen-some m b waking (λ z. omega (arith, (waking-slot sh i e).0)) ∙ rw is refl

  module _ (b : List ℕ) (is : IsMutant sh b) where
    step-here : (s x : ℕ) → step_of m b s x ≡ step sh b s x
    unfolding step_of
    step-here s x = rw (bl.states, bl.inputs) (go (ltb s sh.size.states) refl (ltb x sh.size.inputs) refl)
      where
        go : (c : Bool) → ltb s sh.size.states ≡ c → (d : Bool) → ltb x sh.size.inputs ≡ d →
            cond (c && d) (choice_of m (pair s x) (chosen m b (pair s x))) idle ≡ step sh b s x
        go true ec true ed =
            let ls = ltb-true s sh.size.states ec in
            let lx = ltb-true x sh.size.inputs ed in
            let h = here s x ls lx in
            ap (λ (c : ℕ). choice_of m (pair s x) c) (chosen_at b s x h)
            ∙ choice-at s x (choice_at sh b s x) h (choice-below sh b s x wf is) ∙ sym (step-at sh b s x ls lx)
        go true ec false ed = sym (step-outside sh b s x (λ ls lx. never (cc (lt-ltb x sh.size.inputs lx))))
        go false ec d ed = sym (step-outside sh b s x (λ ls lx. never (cc (lt-ltb s sh.size.states ls))))

    -- the block's mutants do what the sheet's do
    pub step_same : step_of m b ≡ step sh b
    step_same = fun_ext (λ s. fun_ext (λ x. step-here s x))

    -- and wake where they wake
    chosen-low : maybe (start_slot sh) zero (λ i. get_or b i 0) < 16
    unfolding IsMutant
    chosen-low = go (start_slot sh) refl
      where
        go : (o : Option ℕ) → start_slot sh ≡ o → maybe o zero (λ i. get_or b i 0) < 16
        go none e = omega arith
        go (some i) e =
            let w = waking-slot sh i e in
            omega (arith, in-range-at (slots sh) b is i (omega (arith, w.1, mutant-length sh b is)), w.2, most-wakings wf)

    pub start-same : start_of m b ≡ initial sh b
    unfolding initial
    start-same = start_is m b ∙ rw (chosen-waking b, choice-waking m (maybe (start_slot sh) zero (λ i. get_or b i 0))) (bl.wakings _ chosen-low)

    -- the same two machines are compared
    pub pair_same : pair_of m b ≡ against sh b
    pair_same = λ i. record { states = bl.states i; inputs = bl.inputs i; start = start-same i; rule = rule-same i; move = step_same i }

    -- a mutant's choices are in the block's range
    pub ranged : Ranged m b
    unfolding IsMutant
    ranged =
        let long = mutant-length sh b is in
        record {
          short = omega (arith, few-slots);
          at = λ i l. rw (bl.choices i l) (by_cases (dec_lt i (length (slots sh))) (λ h. rw (get_d_default (slots sh) i 1 0 h) (in-range-at (slots sh) b is i (omega arith))) (λ h. past i (omega arith) (omega arith)));
        }
      where
        past : (i : ℕ) → length (slots sh) ≤ i → length b ≤ i → get_or b i 0 < get_or (slots sh) i 1
        past i h k = rw (List·getD-eq-default b 0 k, List·getD-eq-default (slots sh) 1 h) (omega arith)

    -- a mutant gives the same logs
    pub gives_same : (log : List ℕ) → GivesOf m b log ≡ GivesLog sh b (observations log)
    unfolding GivesOf
    gives_same log = rw (step_same, start-same) refl

  -- ---- what the functions ask

  -- the byte of a pair that has one
  pub site-some : (k : ℕ) → k < 256 → (site_at m k ≡ 255 → ⊥) → site_of sh (k / 16) (k % 16) ≡ some (site_at m k)
  site-some k l ne = go (site_of sh (k / 16) (k % 16)) refl
    where
      go : (o : Option ℕ) → site_of sh (k / 16) (k % 16) ≡ o → o ≡ some (site_at m k)
      go none e = absurd (ne (bl.sites k l ∙ rw e refl))
      go (some i) e = ap (λ j. some j) (sym (bl.sites k l ∙ rw e refl))

  -- its byte is one of a mutant's, and so is that of the waking state
  pub slot-low : (k : ℕ) → k < 257 → (site_at m k ≡ 255 → ⊥) → site_at m k < length (slots sh)
  slot-low k l ne =
      by_cases (ℕ_discrete k waking)
      (λ e. rw e (waking-slot sh (site_at m waking) (waking-some (rw e at ne))).1)
      (λ n. (site-is sh (k / 16) (k % 16) (site_at m k) (site-some k (omega (arith, n, l)) ne)).0)

  -- each belongs to one of them
  slot-once : (k j : ℕ) → k < 257 → j < 257 → (site_at m k ≡ 255 → ⊥) → site_at m j ≡ site_at m k → j ≡ k
  slot-once k j lk lj ne e = go (ℕ_discrete k waking) (ℕ_discrete j waking)
    where
      nj : site_at m j ≡ 255 → ⊥
      nj f = ne (sym e ∙ f)

      -- the waking state's is no pair's
      apart : (i : ℕ) → i < 256 → (site_at m i ≡ 255 → ⊥) → site_at m waking ≡ site_at m i → ⊥
      apart i li ni f =
          waking-apart sh (i / 16) (i % 16) (site_at m i) (waking-some (λ z. ni (sym f ∙ z)) ∙ ap (λ v. some v) f) (site-some i li ni)

      go : Dec (k ≡ waking) → Dec (j ≡ waking) → j ≡ k
      go (yes ek) (yes ej) = ej ∙ sym ek
      go (yes ek) (no j') = absurd (apart j (omega (arith, j', lj)) nj (rw ek at (sym e)))
      go (no k') (yes ej) = absurd (apart k (omega (arith, k', lk)) ne (rw ej at e))
      go (no k') (no j') =
          let a = site-some k (omega (arith, k', lk)) ne in
          let b = site-some j (omega (arith, j', lj)) nj in
          let h = site-one sh (j / 16) (j % 16) (k / 16) (k % 16) (site_at m k) (b ∙ ap (λ i. some i) e) a in
          omega (arith, h.0, h.1)

  -- the block is what the functions ask
  pub well-formed : Wf m
  unfolding choices_in
  well-formed =
      record {
        some-states = rw bl.states wf.size.states.some;
        few-states = rw bl.states wf.size.states.few;
        few-inputs = rw bl.inputs wf.size.inputs.few;
        rules = λ k l ne. let h = ruled k l ne in rw (h.2, bl.states) (rule-row sh wf (k / 16) (k % 16) h.0 h.1).row.target;
        targets = λ f l. rw (bl.fault-targets f l, bl.states) (all_get_d (λ (r : Row). r.target < sh.size.states) sh.faults f no_row (all-imp _ (RowIn sh.size) (λ r h. h.target) sh.faults wf.faults) wf.size.states.some);
        faults = λ k c l ne lc. rw (bl.firsts k l) (by_cases (ℕ_discrete (site_at m k) 255) (λ e. single k c (rw (choices-none m k e) at lc)) (λ e. several k c l ne e (rw (choices-some m k e) at lc)));
        sites = λ k l ne. omega (arith, slot-low k l ne, few-slots);
        once = slot-once;
        choices = λ i l. rw (bl.choices i l) (slot-few sh wf i);
        inside = λ k l ne. rw (bl.states, bl.inputs) (site-in (k / 16) (k % 16) (site_at m k) (site-some k l ne));
        wakings = λ c l. rw (bl.wakings c (omega (arith, l, waking-choices, most-wakings wf)), bl.states) (waking-in wf c);
        few-wakings = omega (arith, waking-choices, most-wakings wf);
      }
    where
      ruled : (k : ℕ) → k < 256 → (rule_target m k ≡ 255 → ⊥) → (r : Row) × (rule_at sh.rules (k / 16) (k % 16) ≡ some r) × (rule_target m k ≡ r.target)
      ruled k l ne = go (rule_at sh.rules (k / 16) (k % 16)) refl
        where
          go : (o : Option Row) → rule_at sh.rules (k / 16) (k % 16) ≡ o → (r : Row) × (rule_at sh.rules (k / 16) (k % 16) ≡ some r) × (rule_target m k ≡ r.target)
          go none e = absurd (ne (bl.targets k l ∙ rw e refl))
          go (some r) e = (r, e, bl.targets k l ∙ rw e refl)

      single : (k c : ℕ) → c < 1 → first_row sh.faults (k / 16) (k % 16) + c ≤ 256
      single k c l = omega (arith, first-less sh wf (k / 16) (k % 16))

      several : (k c : ℕ) → k < 256 → (rule_target m k ≡ 255 → ⊥) → (site_at m k ≡ 255 → ⊥) → c < choices_of m (site_at m k) → first_row sh.faults (k / 16) (k % 16) + c ≤ 256
      several k c l ne e lc =
          let at = site-some k l e in
          let is = site-is sh (k / 16) (k % 16) (site_at m k) at in
          let h = ruled k l ne in
          let many : choices_of m (site_at m k) ≡ choices_in sh (k / 16) (k % 16) =
          bl.choices (site_at m k) (site-low (k / 16) (k % 16) (site_at m k) at) ∙ get_d_default (slots sh) (site_at m k) 1 0 is.0 ∙ is.1 in
          let faults : choices_in sh (k / 16) (k % 16) ≡ suc (length (rows_at sh.faults (k / 16) (k % 16))) = rw h.1 refl in
          fault-few sh wf (k / 16) (k % 16) c (omega arith)
