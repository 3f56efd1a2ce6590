-- Mutants by their transitions: a mutant takes one of the transitions at each state and input, and wakes in one of the waking states; and for every
-- choice of these there is a mutant.
use Prim.Native.Nat.{ℕ, zero, suc, ◌+◌, ◌≤◌, ◌<◌, suc-le-suc}
use Rattle.std.proofs.Common.{le_of_suc-le-suc, ◌∙◌, ap, get_or-append-add}
use native.Mathlib.Omega.{arith}
use Rattle.std.specs.Prelude.{◌≡◌, Bool, cond, replicate}
use Rattle.std.proofs.Math.Path.{refl, sym, subst}
use Rattle.std.proofs.Math.Bool.{true, false}
use Rattle.std.proofs.Math.Option.{Option, none, some}
use mathlib.Core.List.{List, [], ◌∷◌, ◌++◌, map, Memᴰ}
use Rattle.std.proofs.Math.Dec.{ltb}
use Rattle.std.proofs.Math.ListN.{length, get_or, length-map}
use Rattle.std.proofs.lemmas.List.{length-replicate}
use borrow.Author.Tests.{ltb-false}
use Rattle.lists.specs.Lists.{maybe, All}
use Rattle.lists.specs.laws.TestLaw.{never}
use Rattle.lists.specs.laws.AllLaw.{all-imp}
use Rattle.lists.specs.laws.ListLaw.{get_or-map-below}
use Rattle.sheet.specs.Sheet.{Sheet, choices_at, is_open, wakings, waking_choices, waking_slots}
use Rattle.sheet.specs.WellFormed.{WellFormed}
use Rattle.sheet.specs.laws.WakingLaw.{some-waking}
use Rattle.model.specs.Machine.{Move}
use Rattle.model.specs.Mutant.{Suspect, suspects, slots, site_in, slot_of, site_of, transitions, InRange, IsMutant, idle, step, start_slot, initial}
use Rattle.model.proofs.laws.SuspectLaw.{IsSuspect, suspects-are, site-in, site-open, waking-slot}
use Rattle.model.proofs.laws.TransitionLaw.{transition-count}
use Rattle.model.proofs.laws.OperationLaw.{in-range, in-range-at, mutant-length}
use Rattle.model.proofs.laws.StepLaw.{choice_of, step-at, choice-below}

module _ {A : Type 0} where
  -- what stands at a place is a member, and each member stands at a place
  pub at_mem : (xs : List A) (i : ℕ) (d : A) → i < length xs → Memᴰ (get_or xs i d) xs
  at_mem [] i d l = absurd (omega arith)
  at_mem (x ∷ xs) zero d l = Memᴰ.head refl
  at_mem (x ∷ xs) (suc i) d l = Memᴰ.tail (at_mem xs i d (le_of_suc-le-suc l))

  pub mem-at : {x : A} {xs : List A} (d : A) → Memᴰ x xs → (i : ℕ) × (i < length xs) × (get_or xs i d ≡ x)
  mem-at d (Memᴰ.head e) = (0, omega arith, sym e)
  mem-at d (Memᴰ.tail m) = let r = mem-at d m in (suc r.0, suc-le-suc r.1, r.2)

  -- a number for each element of a list
  record Listed (Q : A → ℕ → Type 0) (us : List A) : Type 0 where
    list : List ℕ
    long : length list ≡ length us
    at : (i : ℕ) (d : A) → i < length us → Q (get_or us i d) (get_or list i 0)

  listed : (Q : A → ℕ → Type 0) (us : List A) → All (λ u. (i : ℕ) × Q u i) us → Listed Q us
  listed Q [] a = record { list = []; long = refl; at = λ i d l. absurd (omega arith) }
  listed Q (u ∷ us) a = more (listed Q us a.1)
    where
      more : Listed Q us → Listed Q (u ∷ us)
      more r = record { list = a.0.0 ∷ r.list; long = ap suc r.long; at = go }
        where
          go : (i : ℕ) (d : A) → i < suc (length us) → Q (get_or (u ∷ us) i d) (get_or (a.0.0 ∷ r.list) i 0)
          go zero d l = a.0.1
          go (suc i) d l = r.at i d (le_of_suc-le-suc l)

-- two lists in a row, each in range
ranges-append : (cs ds b c : List ℕ) → InRange cs b → InRange ds c → InRange (cs ++ ds) (b ++ c)
unfolding InRange
ranges-append [] ds [] c r t = t
ranges-append [] ds (i ∷ b) c r t = absurd r
ranges-append (d ∷ cs) ds [] c r t = absurd r
ranges-append (d ∷ cs) ds (i ∷ b) c r t = (r.0, ranges-append cs ds b c r.1 t)

ranges-replicate : (k c i : ℕ) → i < c → InRange (replicate k c) (replicate k i)
unfolding InRange
ranges-replicate zero c i l = tt
ranges-replicate (suc k) c i l = (l, ranges-replicate k c i l)

-- ---- what a mutant does is one of the transitions
module _ (sh : Sheet) (wf : WellFormed sh) (b : List ℕ) (is : IsMutant sh b) where
  pub step-mem : (s x : ℕ) → s < sh.size.states → x < sh.size.inputs → Memᴰ (step sh b s x) (transitions sh s x)
  step-mem s x ls lx =
      subst (λ m. Memᴰ m (transitions sh s x)) (sym (step-at sh b s x ls lx))
      (at_mem (transitions sh s x) (choice_of sh b s x) idle (rw (transition-count sh s x) (choice-below sh b s x wf is)))

  pub initial-mem : Memᴰ (initial sh b) (wakings sh)
  unfolding initial IsMutant waking_choices
  initial-mem = go (start_slot sh) refl
    where
      go : (o : Option ℕ) → start_slot sh ≡ o → Memᴰ (get_or (wakings sh) (maybe o zero (λ i. get_or b i 0)) 0) (wakings sh)
      go none e = at_mem (wakings sh) 0 0 (some-waking sh)
      go (some i) e =
          let h = waking-slot sh i e in
          let l = in-range-at (slots sh) b is i (omega (arith, h.1, mutant-length sh b is)) in
          at_mem (wakings sh) (get_or b i 0) 0 (omega (arith, h.2))

-- ---- and each choice of transitions is some mutant's
-- a mutant whose steps and waking state are as asked
pub record Mutated (sh : Sheet) (P : ℕ → ℕ → Move → Type 0) (W : ℕ → Type 0) : Type 0 where
  pub mutant : List ℕ
  pub is : IsMutant sh mutant
  pub steps : (s x : ℕ) → s < sh.size.states → x < sh.size.inputs → P s x (step sh mutant s x)
  pub wakes : W (initial sh mutant)

module _ (sh : Sheet) (P : ℕ → ℕ → Move → Type 0) (W : ℕ → Type 0)
    (choose : (s x : ℕ) → s < sh.size.states → x < sh.size.inputs → (m : Move) × Memᴰ m (transitions sh s x) × P s x m)
    (wake : (t : ℕ) × Memᴰ t (wakings sh) × W t) where
  -- a choice at a pair that is as asked
  record Good (s x i : ℕ) : Type 0 where
    low : i < choices_at sh s x
    asked : P s x (get_or (transitions sh s x) i idle)

  good : (s x : ℕ) → s < sh.size.states → x < sh.size.inputs → (i : ℕ) × Good s x i
  good s x ls lx =
      let (m, there, asked) = choose s x ls lx in
      let (i, l, e) = mem-at idle there in
      (i, record { low = rw (transition-count sh s x) at l; asked = subst (P s x) (sym e) asked })

  abbrev At : Suspect → ℕ → Type 0
  At u i = Good u.state u.input i

  choices : Listed At (suspects sh)
  choices = listed At (suspects sh) (all-imp (λ u. (i : ℕ) × At u i) (IsSuspect sh) (λ u h. good u.state u.input h.state h.input) (suspects sh) (suspects-are sh))

  waking : (i : ℕ) × (i < waking_choices sh) × W (get_or (wakings sh) i 0)
  unfolding waking_choices
  waking = let (t, there, asked) = wake in let (i, l, e) = mem-at 0 there in (i, l, subst W (sym e) asked)

  chosen : List ℕ
  chosen = replicate (waking_slots sh) waking.0 ++ choices.list

  chosen_is : IsMutant sh chosen
  unfolding IsMutant slots chosen
  chosen_is =
      let f : Suspect → ℕ = λ u. choices_at sh u.state u.input in
      let d : Suspect = record { state = 0; input = 0 } in
      let many = length-map (suspects sh) f in
      ranges-append (replicate (waking_slots sh) (waking_choices sh)) (map f (suspects sh)) (replicate (waking_slots sh) waking.0) choices.list
      (ranges-replicate (waking_slots sh) (waking_choices sh) waking.0 waking.1)
      (in-range (map f (suspects sh)) choices.list (choices.long ∙ sym many)
      (λ j l.
      let inside : j < length (suspects sh) = omega (arith, choices.long) in
      rw (get_or-map-below f (suspects sh) j 0 d inside) (choices.at j d inside).low))

  chosen-step : (s x : ℕ) → s < sh.size.states → x < sh.size.inputs → P s x (get_or (transitions sh s x) (choice_of sh chosen s x) idle)
  unfolding site_of chosen is_open
  chosen-step s x ls lx = go (site_in (suspects sh) s x) refl
    where
      here : Suspect
      here = record { state = s; input = x }

      shut : site_in (suspects sh) s x ≡ none → (b : Bool) → ltb 1 (choices_at sh s x) ≡ b → choices_at sh s x ≤ 1
      shut e true eb = never (cc (sym (site-open sh s x ls lx eb), ap (slot_of sh) e))
      shut e false eb = ltb-false 1 (choices_at sh s x) eb

      go : (o : Option ℕ) → site_in (suspects sh) s x ≡ o → P s x (get_or (transitions sh s x) (maybe (slot_of sh o) zero (λ i. get_or chosen i 0)) idle)
      go none e =
          let (i, g) = good s x ls lx in
          let few = shut e (ltb 1 (choices_at sh s x)) refl in
          let low = g.low in
          let zeroth : i ≡ 0 = omega arith in
          subst (λ j. P s x (get_or (transitions sh s x) j idle)) zeroth g.asked
      go (some j) e =
          let (l, at) = site-in (suspects sh) s x j here e in
          let g : Good s x (get_or choices.list j 0) = subst (λ u. At u (get_or choices.list j 0)) at (choices.at j here l) in
          let same : get_or chosen (waking_slots sh + j) 0 ≡ get_or choices.list j 0 =
          ap (λ w. get_or chosen (w + j) 0) (sym (length-replicate (waking_slots sh) waking.0)) ∙ get_or-append-add (replicate (waking_slots sh) waking.0) choices.list j 0 in
          subst (λ c. P s x (get_or (transitions sh s x) c idle)) (sym same) g.asked

  chosen-wakes : W (initial sh chosen)
  unfolding initial start_slot waking_slots chosen
  chosen-wakes = go (ltb 1 (waking_choices sh)) refl
    where
      go : (b : Bool) → ltb 1 (waking_choices sh) ≡ b → W (get_or (wakings sh) (maybe (cond b (some zero) none) zero (λ i. get_or (replicate (cond b 1 0) waking.0 ++ choices.list) i 0)) 0)
      go true e = waking.2
      go false e =
          let few = ltb-false 1 (waking_choices sh) e in
          let low = waking.1 in
          let zeroth : waking.0 ≡ 0 = omega arith in
          subst (λ i. W (get_or (wakings sh) i 0)) zeroth waking.2

  pub mutated : Mutated sh P W
  mutated =
      record {
        mutant = chosen;
        is = chosen_is;
        steps = λ s x ls lx. subst (P s x) (sym (step-at sh chosen s x ls lx)) (chosen-step s x ls lx);
        wakes = chosen-wakes;
      }
