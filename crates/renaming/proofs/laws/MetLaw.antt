-- Breadth-first search meets each state once, 0 first; and where the states are renamed, it meets them in their new names.
use Prim.Native.Nat.{ℕ, zero, suc, ◌-◌, ◌≤◌, ◌<◌}
use Rattle.std.proofs.Common.{arith, add-one, ◌∙◌, inr, length-drop, drop_of_length-le, drop-drop, ltb-true, ltb-false}
use Rattle.std.specs.Prelude.{◌≡◌, Bool, true, false, cond, ◌⊎◌, ltb, drop}
use Rattle.std.proofs.Math.Path.{refl, sym, ap, subst}
use Rattle.std.proofs.Math.Logic.{inl, ⊎_elim, by_cases}
use Rattle.std.proofs.Math.Option.{Option, none, some}
use mathlib.Core.List.Memᴰ
use mathlib.Core.List.{List, [], ◌∷◌, ◌++◌, map, append_assoc, append-nil, Memᴰ}
use Rattle.std.proofs.Math.Decide.{ℕ_discrete}
use Rattle.std.proofs.Math.ListN.{length, get_or, length-map}
use Rattle.std.proofs.lemmas.List.{drop-append-le}
use Rattle.lists.specs.Lists.{maybe, first, All, Ascending, up_to}
use Rattle.lists.specs.laws.TestLaw.{never}
use Rattle.lists.specs.laws.AllLaw.{all-imp, all_snoc, all_map}
use Rattle.lists.specs.laws.ListLaw.{map-append, length-up_to}
use Rattle.lists.specs.laws.MemberLaw.{ascending-append, up_to-below, up_to-ascending}
use Rattle.sheet.specs.declared.Row.{Row}
use Rattle.sheet.specs.Sheet.{Sheet, rule_at, after}
use Rattle.sheet.specs.WellFormed.{WellFormed}
use Rattle.model.proofs.laws.StaysLaw.{rule-row}
use Rattle.renaming.specs.Ordering.{place_in}
use Rattle.renaming.specs.Renaming.{renamed, Renames, meet, meet_from, met_by, order, number_of}
use Rattle.renaming.proofs.laws.SortLaw.{Distinct, mem-all, distinct-map}
use Rattle.renaming.proofs.laws.PlaceLaw.{place-below, place-mem, place_at, place_map, distinct-few}
use Rattle.renaming.proofs.laws.RenamedLaw.{renamed_rule, rule-now}

-- ys is xs with others behind
abbrev Longer : List ℕ → List ℕ → Type 0
Longer xs ys = (more : List ℕ) × (ys ≡ xs ++ more)

longer-same : (xs : List ℕ) → Longer xs xs
longer-same xs = ([], sym (append-nil xs))

longer-trans : (xs ys zs : List ℕ) → Longer xs ys → Longer ys zs → Longer xs zs
longer-trans xs ys zs a b = (a.0 ++ b.0, b.1 ∙ ap (λ l. l ++ b.0) a.1 ∙ append_assoc xs a.0 b.0)

longer-mem : (xs ys : List ℕ) (t : ℕ) → Longer xs ys → Memᴰ t xs → Memᴰ t ys
longer-mem xs ys t a m = subst (Memᴰ t) (sym a.1) (Memᴰ.append_left a.0 m)

-- ---- one state more
meet-longer : (met : List ℕ) (t : ℕ) → Longer met (meet met t)
meet-longer met t = go (ltb (place_in t met) (length met))
  where
    go : (b : Bool) → Longer met (cond b met (met ++ t ∷ []))
    go true = longer-same met
    go false = (t ∷ [], refl)

meet-has : (met : List ℕ) (t : ℕ) → Memᴰ t (meet met t)
meet-has met t = go (ltb (place_in t met) (length met)) refl
  where
    go : (b : Bool) → ltb (place_in t met) (length met) ≡ b → Memᴰ t (cond b met (met ++ t ∷ []))
    go true e = place-mem t met (ltb-true (place_in t met) (length met) e)
    go false e = Memᴰ.append_right met (Memᴰ.head refl)

-- different states of the sheet
pub record Met (n : ℕ) (met : List ℕ) : Type 0 where
  pub below : All (λ s. s < n) met
  pub distinct : Distinct met

-- there is room for a state that is not met
pub met-room : (n : ℕ) (met : List ℕ) (t : ℕ) → Met n met → t < n → length met ≤ place_in t met → length met < n
unfolding Ascending
met-room n met t h l out =
    distinct-few n (t ∷ met) (l, h.below)
    (mem-all (λ s. t ≡ s → ⊥) met (λ s m same. let k = place-below t met (subst (λ u. Memᴰ u met) (sym same) m) in omega arith), h.distinct)

meet-met : (n : ℕ) (met : List ℕ) (t : ℕ) → Met n met → t < n → Met n (meet met t)
unfolding Ascending
meet-met n met t h l = go (ltb (place_in t met) (length met)) refl
  where
    go : (b : Bool) → ltb (place_in t met) (length met) ≡ b → Met n (cond b met (met ++ t ∷ []))
    go true e = h
    go false e =
        record {
          below = all_snoc (λ s. s < n) met t h.below l;
          distinct =
              ascending-append (λ x y. x ≡ y → ⊥) met (t ∷ []) h.distinct (tt, tt)
              (mem-all (λ s. All (λ u. s ≡ u → ⊥) (t ∷ [])) met
              (λ s m. (λ same. let k = place-below t met (subst (λ u. Memᴰ u met) same m) in omega (arith, ltb-false (place_in t met) (length met) e), tt)));
        }

module _ (sh : Sheet) (wf : WellFormed sh) where
  -- all states that a state leads to
  module _ (s : ℕ) where
    from-longer : (met : List ℕ) (k : ℕ) → Longer met (meet_from sh.rules s met k)
    unfolding meet_from
    from-longer met zero = longer-same met
    from-longer met (suc k) = go (rule_at sh.rules s k) (from-longer met k)
      where
        go : (o : Option Row) → Longer met (meet_from sh.rules s met k) → Longer met (maybe o (meet_from sh.rules s met k) (λ r. meet (meet_from sh.rules s met k) r.target))
        go none h = h
        go (some r) h = longer-trans met _ _ h (meet-longer (meet_from sh.rules s met k) r.target)

    pub from-met : (met : List ℕ) (k : ℕ) → Met sh.size.states met → Met sh.size.states (meet_from sh.rules s met k)
    unfolding meet_from
    from-met met zero h = h
    from-met met (suc k) h = go (rule_at sh.rules s k) refl (from-met met k h)
      where
        go : (o : Option Row) → rule_at sh.rules s k ≡ o → Met sh.size.states (meet_from sh.rules s met k) →
            Met sh.size.states (maybe o (meet_from sh.rules s met k) (λ r. meet (meet_from sh.rules s met k) r.target))
        go none e g = g
        go (some r) e g = meet-met sh.size.states (meet_from sh.rules s met k) r.target g (rule-row sh wf s k r e).row.target

    from-has : (met : List ℕ) (k x : ℕ) (r : Row) → x < k → rule_at sh.rules s x ≡ some r → Memᴰ r.target (meet_from sh.rules s met k)
    unfolding meet_from
    from-has met zero x r l e = absurd (omega arith)
    from-has met (suc k) x r l e = go (rule_at sh.rules s k) refl (from-has met k x r)
      where
        go : (o : Option Row) → rule_at sh.rules s k ≡ o → (x < k → rule_at sh.rules s x ≡ some r → Memᴰ r.target (meet_from sh.rules s met k)) →
            Memᴰ r.target (maybe o (meet_from sh.rules s met k) (λ q. meet (meet_from sh.rules s met k) q.target))
        go o eo ih =
            by_cases (ℕ_discrete x k)
            (λ same. let eq : o ≡ some r = sym eo ∙ ap (rule_at sh.rules s) (sym same) ∙ e in rw eq (meet-has (meet_from sh.rules s met k) r.target))
            (λ other. still o (ih (omega arith) e))
          where
            still : (o : Option Row) → Memᴰ r.target (meet_from sh.rules s met k) →
                Memᴰ r.target (maybe o (meet_from sh.rules s met k) (λ q. meet (meet_from sh.rules s met k) q.target))
            still none m = m
            still (some q) m = longer-mem _ _ r.target (meet-longer (meet_from sh.rules s met k) q.target) m

  -- ---- the search
  -- each rule at s leads to a state that is met
  abbrev Looked : List ℕ → ℕ → Type 0
  Looked met s = (x : ℕ) (r : Row) → rule_at sh.rules s x ≡ some r → Memᴰ r.target met

  record Search (i : ℕ) (met : List ℕ) : Type 0 where
    begins : Longer (0 ∷ []) met
    states : Met sh.size.states met
    looked : (s : ℕ) → Memᴰ s met → Memᴰ s (drop i met) ⊎ Looked met s

  search-more : (i : ℕ) (met : List ℕ) → Search i met → Search (suc i) (maybe (first (drop i met)) met (λ s. meet_from sh.rules s met sh.size.inputs))
  search-more i met h = go (drop i met) refl
    where
      go : (l : List ℕ) → drop i met ≡ l → Search (suc i) (maybe (first l) met (λ s. meet_from sh.rules s met sh.size.inputs))
      go [] e =
          record {
            begins = h.begins;
            states = h.states;
            looked = λ s m. ⊎_elim (λ n. absurd (Memᴰ.not-nil (subst (Memᴰ s) e n))) (λ k. inr k) (h.looked s m);
          }
      go (u ∷ rest) e =
          record {
            begins = longer-trans (0 ∷ []) met next h.begins longer;
            states = from-met u met sh.size.inputs h.states;
            looked = λ s m.
                ⊎_elim
                (λ n. ⊎_elim (λ d. ⊎_elim (λ same. inr (λ x r k. from-has u met sh.size.inputs x r (input s x r k) (ap (λ w. rule_at sh.rules w x) (sym same) ∙ k)))
                (λ t. inl (subst (Memᴰ s) (sym left) (Memᴰ.append_left longer.0 t))) (Memᴰ.cases_cons (subst (Memᴰ s) e d)))
                (λ k. inr (λ x r w. longer-mem met next r.target longer (k x r w))) (h.looked s n))
                (λ n. inl (subst (Memᴰ s) (sym left) (Memᴰ.append_right rest n)))
                (Memᴰ.append_cases met (subst (Memᴰ s) longer.1 m));
          }
        where
          next : List ℕ
          next = meet_from sh.rules u met sh.size.inputs

          longer : Longer met next
          longer = from-longer u met sh.size.inputs

          input : (s x : ℕ) (r : Row) → rule_at sh.rules s x ≡ some r → x < sh.size.inputs
          input s x r k = let at = rule-row sh wf s x r k in omega (arith, at.input, at.row.input)

          inside : suc i ≤ length met
          inside = let k : length met - i ≡ suc (length rest) = sym (length-drop i met) ∙ ap length e in omega arith

          left : drop (suc i) next ≡ rest ++ longer.0
          left =
              ap (drop (suc i)) longer.1 ∙ drop-append-le (suc i) met longer.0 inside
              ∙ ap (λ l. l ++ longer.0) (ap (λ j. drop j met) (sym (add-one i)) ∙ sym (drop-drop 1 i met) ∙ ap (drop 1) e)

  search : (i : ℕ) → Search i (met_by sh i)
  unfolding met_by Ascending
  search zero =
      record {
        begins = longer-same (0 ∷ []);
        states = record { below = (wf.size.states.some, tt); distinct = (tt, tt) };
        looked = λ s m. inl m;
      }
  search (suc i) = search-more i (met_by sh i) (search i)

  pub met-states : (i : ℕ) → Met sh.size.states (met_by sh i)
  met-states i = (search i).states

  pub order_below : All (λ s. s < sh.size.states) (order sh)
  unfolding order
  order_below = (search sh.size.states).states.below

  pub order-distinct : Distinct (order sh)
  unfolding order
  order-distinct = (search sh.size.states).states.distinct

  pub order-few : length (order sh) ≤ sh.size.states
  order-few = distinct-few sh.size.states (order sh) order_below order-distinct

  order-looked : (s : ℕ) → Memᴰ s (order sh) → Looked (order sh) s
  unfolding order
  order-looked s m =
      ⊎_elim (λ n. absurd (Memᴰ.not-nil (subst (Memᴰ s) (drop_of_length-le (met_by sh sh.size.states) order-few) n))) (λ k. k)
      ((search sh.size.states).looked s m)

  order-begins : Longer (0 ∷ []) (order sh)
  unfolding order
  order-begins = (search sh.size.states).begins

  leads-on : (xs : List ℕ) (s t : ℕ) → Memᴰ s (order sh) → after sh.rules s xs ≡ some t → Memᴰ t (order sh)
  unfolding after
  leads-on [] s t m e = let same : s ≡ t = cc in subst (λ u. Memᴰ u (order sh)) same m
  leads-on (x ∷ xs) s t m e = go (rule_at sh.rules s x) refl (λ u. leads-on xs u t) e
    where
      go : (o : Option Row) → rule_at sh.rules s x ≡ o → ((u : ℕ) → Memᴰ u (order sh) → after sh.rules u xs ≡ some t → Memᴰ t (order sh)) →
          maybe o none (λ r. after sh.rules r.target xs) ≡ some t → Memᴰ t (order sh)
      go none q ih h = never (cc)
      go (some r) q ih h = ih r.target (order-looked s m x r q) h

  -- every state is met
  pub order-has : (t : ℕ) → t < sh.size.states → Memᴰ t (order sh)
  order-has t l = let r = wf.reached t l in leads-on r.inputs 0 t (longer-mem (0 ∷ []) (order sh) 0 order-begins (Memᴰ.head refl)) r.leads

  -- so the numbers are a renaming
  pub numbers : Renames sh.size.states (number_of sh)
  unfolding number_of place_in
  numbers =
      record {
        zeroth = zeroth (order sh) order-begins;
        into = λ s l. let k = place-below s (order sh) (order-has s l) in omega (arith, order-few);
        apart = λ s t ls lt e.
            sym (place_at s (order sh) 0 (place-below s (order sh) (order-has s ls))) ∙ ap (λ i. get_or (order sh) i 0) e
            ∙ place_at t (order sh) 0 (place-below t (order sh) (order-has t lt));
      }
    where
      zeroth : (met : List ℕ) → Longer (0 ∷ []) met → place_in 0 met ≡ 0
      zeroth met a = rw a.1 refl

  -- there are as many as states
  pub order-full : length (order sh) ≡ sh.size.states
  unfolding number_of
  order-full =
      let n = sh.size.states in
      let below : All (λ i. i < length (order sh)) (map (number_of sh) (up_to n)) =
      all_map (λ i. i < length (order sh)) (number_of sh) (up_to n) (all-imp _ (λ s. s < n) (λ s l. place-below s (order sh) (order-has s l)) (up_to n) (up_to-below n)) in
      let apart : Distinct (map (number_of sh) (up_to n)) =
      distinct-map (λ s. s < n) ◌<◌ (number_of sh) (λ s t ls lt l e. let same = numbers.apart s t ls lt e in omega arith) (up_to n) (up_to-below n) (up_to-ascending n) in
      let many = distinct-few (length (order sh)) (map (number_of sh) (up_to n)) below apart in
      omega (arith, order-few, length-map (up_to n) (number_of sh), length-up_to n)

-- ---- renamed states
pub drop-map : {A B : Type 0} (p : A → B) (i : ℕ) (xs : List A) → drop i (map p xs) ≡ map p (drop i xs)
drop-map p zero xs = refl
drop-map p (suc i) [] = refl
drop-map p (suc i) (x ∷ xs) = drop-map p i xs

all_drop : (P : ℕ → Type 0) (i : ℕ) (xs : List ℕ) → All P xs → All P (drop i xs)
all_drop P zero xs a = a
all_drop P (suc i) [] a = tt
all_drop P (suc i) (x ∷ xs) a = all_drop P i xs a.1

module _ (p : ℕ → ℕ) (sh : Sheet) (wf : WellFormed sh) (ren : Renames sh.size.states p) where
  same_place : (met : List ℕ) (t : ℕ) → All (λ s. s < sh.size.states) met → t < sh.size.states → place_in (p t) (map p met) ≡ place_in t met
  same_place met t a l = place_map t p met (all-imp (λ s. p t ≡ p s → t ≡ s) (λ s. s < sh.size.states) (λ s k. ren.apart t s l k) met a)

  meet-now : (met : List ℕ) (t : ℕ) → All (λ s. s < sh.size.states) met → t < sh.size.states → meet (map p met) (p t) ≡ map p (meet met t)
  meet-now met t a l = rw (same_place met t a l, length-map met p) (go (ltb (place_in t met) (length met)))
    where
      go : (b : Bool) → cond b (map p met) (map p met ++ p t ∷ []) ≡ map p (cond b met (met ++ t ∷ []))
      go true = refl
      go false = sym (map-append p met (t ∷ []))

  from-now : (s : ℕ) (met : List ℕ) (k : ℕ) → s < sh.size.states → Met sh.size.states met →
      meet_from (renamed p sh).rules (p s) (map p met) k ≡ map p (meet_from sh.rules s met k)
  unfolding meet_from
  from-now s met zero l h = refl
  from-now s met (suc k) l h = rw (from-now s met k l h, rule-now p sh wf ren s k l) (go (rule_at sh.rules s k) refl)
    where
      go : (o : Option Row) → rule_at sh.rules s k ≡ o →
          maybe (renamed_rule p o) (map p (meet_from sh.rules s met k)) (λ r. meet (map p (meet_from sh.rules s met k)) r.target)
          ≡ map p (maybe o (meet_from sh.rules s met k) (λ r. meet (meet_from sh.rules s met k) r.target))
      go none e = refl
      go (some r) e = meet-now (meet_from sh.rules s met k) r.target (from-met sh wf s met k h).below (rule-row sh wf s k r e).row.target

  met-now : (i : ℕ) → met_by (renamed p sh) i ≡ map p (met_by sh i)
  unfolding met_by
  met-now zero = ap (λ (t : ℕ). t ∷ []) (sym ren.zeroth)
  met-now (suc i) = rw (met-now i, drop-map p i (met_by sh i)) (go (drop i (met_by sh i)) (all_drop (λ s. s < sh.size.states) i (met_by sh i) (search sh wf i).states.below))
    where
      go : (l : List ℕ) → All (λ s. s < sh.size.states) l →
          maybe (first (map p l)) (map p (met_by sh i)) (λ s. meet_from (renamed p sh).rules s (map p (met_by sh i)) sh.size.inputs)
          ≡ map p (maybe (first l) (met_by sh i) (λ s. meet_from sh.rules s (met_by sh i) sh.size.inputs))
      go [] a = refl
      go (u ∷ l) a = from-now u (met_by sh i) sh.size.inputs a.0 (search sh wf i).states

  -- the search meets the renamed states, so they get the numbers that they had
  pub number-now : (s : ℕ) → s < sh.size.states → number_of (renamed p sh) (p s) ≡ number_of sh s
  unfolding number_of order
  number-now s l = ap (place_in (p s)) (met-now sh.size.states) ∙ same_place (order sh) s (order_below sh wf) l
