-- What the numbers are: of two states the one that a shorter, or as short and smaller, input sequence reaches along rules has the lower number.
use Prim.Native.Nat.{ℕ, zero, suc, ◌-◌, ◌≤◌, ◌<◌}
use Rattle.std.proofs.Common.{le_of_suc-le-suc, add-one, ◌∙◌, inr, length-drop, drop-drop, ltb-true}
use native.Mathlib.Omega.{arith}
use Rattle.std.specs.Prelude.{◌≡◌, Bool, true, false, cond, ◌⊎◌, ltb}
use Rattle.std.proofs.Math.Path.{refl, sym, ap, subst}
use Rattle.std.proofs.Math.Logic.{inl, ⊎_elim, by_cases}
use Rattle.std.proofs.Math.Option.{Option, none, some}
use mathlib.Core.List.{List, [], ◌∷◌, ◌++◌, map, append_assoc, append-nil, Memᴰ}
use Rattle.std.proofs.Math.Decide.{ℕ_discrete}
use Rattle.std.proofs.Math.ListN.{length, get_or, drop, length-append, length-map, drop_of_length-le}
use Rattle.std.proofs.lemmas.List.{drop-append-le}
use Rattle.lists.specs.Lists.{maybe, first, All, Ascending, Before}
use Rattle.lists.specs.laws.TestLaw.{never}
use Rattle.lists.specs.laws.AllLaw.{all-imp, all_snoc, all-mem, all_append}
use Rattle.lists.specs.laws.ListLaw.{map-append, get_or-map-below, all-at-index}
use Rattle.lists.specs.laws.MemberLaw.{mem-map, map-mem, ascending-append}
use Rattle.sheet.specs.declared.Row.{Row}
use Rattle.sheet.specs.Sheet.{Sheet, rule_at, after}
use Rattle.sheet.specs.WellFormed.{WellFormed}
use Rattle.sheet.specs.laws.RowLaw.{before-trans, after-snoc}
use Rattle.model.specs.Verdict.{After}
use Rattle.model.proofs.laws.StaysLaw.{rule-row}
use Rattle.renaming.specs.Ordering.{place_in}
use Rattle.renaming.specs.Renaming.{meet, meet_from, met_by, order, number_of}
use Rattle.renaming.proofs.laws.SortLaw.{Distinct, mem-all}
use Rattle.renaming.proofs.laws.PlaceLaw.{place-below, place-mem, place_at}
use Rattle.renaming.proofs.laws.MetLaw.{drop-map, order-distinct, order-few, order-has}
use Rattle.renaming.proofs.laws.MutatedLaw.{at_mem}

-- ---- the order of sequences: shorter, then smaller
after-trans : (xs ys zs : List ℕ) → After xs ys → After ys zs → After xs zs
after-trans xs ys zs (inl l) (inl k) = inl (omega arith)
after-trans xs ys zs (inl l) (inr k) = inl (omega (arith, k.0))
after-trans xs ys zs (inr l) (inl k) = inl (omega (arith, l.0))
after-trans xs ys zs (inr l) (inr k) = inr (l.0 ∙ k.0, before-trans xs ys zs l.1 k.1)

before-append : (xs ys us vs : List ℕ) → Before xs ys → Before (xs ++ us) (ys ++ vs)
unfolding Before
before-append [] ys us vs h = absurd h
before-append (x ∷ xs) [] us vs h = absurd h
before-append (x ∷ xs) (y ∷ ys) us vs (inl l) = inl l
before-append (x ∷ xs) (y ∷ ys) us vs (inr h) = inr (h.0, before-append xs ys us vs h.1)

after-append : (xs ys us vs : List ℕ) → length us ≡ length vs → After xs ys → After (xs ++ us) (ys ++ vs)
after-append xs ys us vs e (inl l) = inl (omega (arith, length-append xs us, length-append ys vs))
after-append xs ys us vs e (inr l) = inr (omega (arith, l.0, length-append xs us, length-append ys vs), before-append xs ys us vs l.1)

after-longer : (xs : List ℕ) (x : ℕ) → After xs (xs ++ x ∷ [])
after-longer xs x = inl (omega (arith, length-append xs (x ∷ [])))

after-input : (xs : List ℕ) (x y : ℕ) → x < y → After (xs ++ x ∷ []) (xs ++ y ∷ [])
unfolding Before
after-input xs x y l = inr (length-append xs (x ∷ []) ∙ sym (length-append xs (y ∷ [])), go xs)
  where
    go : (zs : List ℕ) → Before (zs ++ x ∷ []) (zs ++ y ∷ [])
    go [] = inl l
    go (z ∷ zs) = inr (refl, go zs)

-- the same, or earlier
abbrev AtMost : List ℕ → List ℕ → Type 0
AtMost xs ys = (xs ≡ ys) ⊎ After xs ys

most-trans : (xs ys zs : List ℕ) → AtMost xs ys → AtMost ys zs → AtMost xs zs
most-trans xs ys zs (inl e) k = subst (λ l. AtMost l zs) (sym e) k
most-trans xs ys zs (inr l) (inl e) = inr (subst (After xs) e l)
most-trans xs ys zs (inr l) (inr k) = inr (after-trans xs ys zs l k)

most-append : (xs ys us : List ℕ) → AtMost xs ys → AtMost (xs ++ us) (ys ++ us)
most-append xs ys us (inl e) = inl (ap (λ l. l ++ us) e)
most-append xs ys us (inr l) = inr (after-append xs ys us us refl l)

-- a later element of an ascending list
ascending-at : {A : Type 0} (R : A → A → Type 0) (xs : List A) (i j : ℕ) (d : A) → Ascending R xs → i < j → j < length xs → R (get_or xs i d) (get_or xs j d)
unfolding Ascending
ascending-at R [] i j d a l k = absurd (omega arith)
ascending-at R (x ∷ xs) i zero d a l k = absurd (omega arith)
ascending-at R (x ∷ xs) zero (suc j) d a l k = all-at-index (R x) xs j d (le_of_suc-le-suc k) a.0
ascending-at R (x ∷ xs) (suc i) (suc j) d a l k = ascending-at R xs i j d a.1 (le_of_suc-le-suc l) (le_of_suc-le-suc k)

-- ---- a state that is met, and the sequence by which it is met
record Visit : Type 0 where
  state : ℕ
  word : List ℕ

abbrev state_of : Visit → ℕ
state_of v = v.state

-- the state of one visit only
one-visit : (vs : List Visit) (v w : Visit) → Distinct (map state_of vs) → Memᴰ v vs → Memᴰ w vs → v.state ≡ w.state → v ≡ w
unfolding Ascending
one-visit [] v w d m n e = absurd (mathlib.Core.List.Memᴰ.not-nil m)
one-visit (u ∷ vs) v w d m n e =
    ⊎_elim
    (λ eu. ⊎_elim (λ ew. eu ∙ sym ew) (λ t. absurd (all-mem (λ y. u.state ≡ y → ⊥) (map state_of vs) w.state d.0 (mem-map state_of t) (ap state_of (sym eu) ∙ e))) (mathlib.Core.List.Memᴰ.cases_cons n))
    (λ t. ⊎_elim (λ ew. absurd (all-mem (λ y. u.state ≡ y → ⊥) (map state_of vs) v.state d.0 (mem-map state_of t) (ap state_of (sym ew) ∙ sym e))) (λ k. one-visit vs v w d.1 t k e) (mathlib.Core.List.Memᴰ.cases_cons n))
    (mathlib.Core.List.Memᴰ.cases_cons m)

wider : (vs more : List Visit) (v w : Visit) → Memᴰ w (vs ++ more) → Memᴰ w (vs ++ (more ++ v ∷ []))
wider vs more v w m = subst (Memᴰ w) (append_assoc vs more (v ∷ [])) (mathlib.Core.List.Memᴰ.append_left (v ∷ []) m)

drop-mem : (j : ℕ) (vs : List Visit) (w : Visit) → Memᴰ w (drop j vs) → Memᴰ w vs
drop-mem zero vs w m = m
drop-mem (suc j) [] w m = m
drop-mem (suc j) (v ∷ vs) w m = mathlib.Core.List.Memᴰ.tail (drop-mem j vs w m)

drop-up : (R : Visit → Visit → Type 0) (j : ℕ) (vs : List Visit) → Ascending R vs → Ascending R (drop j vs)
unfolding Ascending
drop-up R zero vs a = a
drop-up R (suc j) [] a = a
drop-up R (suc j) (v ∷ vs) a = drop-up R j vs a.1

module _ (sh : Sheet) (wf : WellFormed sh) where
  abbrev Leads : Visit → Type 0
  Leads v = after sh.rules 0 v.word ≡ some v.state

  abbrev Earlier : Visit → Visit → Type 0
  Earlier v w = After v.word w.word

  -- the rule at a state and an input leads to a visit that is no later than by this input
  abbrev Reached : List Visit → Visit → ℕ → Row → Type 0
  Reached vs u x r = (w : Visit) × Memᴰ w vs × (w.state ≡ r.target) × AtMost w.word (u.word ++ x ∷ [])

  abbrev Settled : List Visit → Visit → Type 0
  Settled vs u = (x : ℕ) (r : Row) → rule_at sh.rules u.state x ≡ some r → Reached vs u x r

  -- the visits that a look at u adds, by the inputs below k
  record Round (vs : List Visit) (u : Visit) (k : ℕ) (met : List ℕ) : Type 0 where
    more : List Visit
    is : met ≡ map state_of (vs ++ more)
    words : All (λ w. (x : ℕ) × (x < k) × (w.word ≡ u.word ++ x ∷ [])) more
    leads : All Leads more
    up : Ascending Earlier more
    done : (x : ℕ) (r : Row) → x < k → rule_at sh.rules u.state x ≡ some r → Reached (vs ++ more) u x r

  module _ (vs : List Visit) (u : Visit) (here : Leads u) (ahead : (w : Visit) → Memᴰ w vs → (x : ℕ) → After w.word (u.word ++ x ∷ [])) where
    round-none : (k : ℕ) (met : List ℕ) → rule_at sh.rules u.state k ≡ none → Round vs u k met → Round vs u (suc k) met
    round-none k met e h =
        record {
          more = h.more;
          is = h.is;
          words = all-imp _ (λ w. (x : ℕ) × (x < k) × (w.word ≡ u.word ++ x ∷ [])) (λ w a. (a.0, omega (arith, a.1), a.2)) h.more h.words;
          leads = h.leads;
          up = h.up;
          done = λ x r l f. by_cases (ℕ_discrete x k) (λ same. never (cc (ap (rule_at sh.rules u.state) same))) (λ other. h.done x r (omega arith) f);
        }

    -- the state was met already
    round-old : (k : ℕ) (met : List ℕ) (r : Row) → rule_at sh.rules u.state k ≡ some r → Memᴰ r.target met → Round vs u k met → Round vs u (suc k) met
    round-old k met r e m h =
        record {
          more = h.more;
          is = h.is;
          words = all-imp _ (λ w. (x : ℕ) × (x < k) × (w.word ≡ u.word ++ x ∷ [])) (λ w a. (a.0, omega (arith, a.1), a.2)) h.more h.words;
          leads = h.leads;
          up = h.up;
          done = λ x q l f. by_cases (ℕ_discrete x k) (λ same. found x q same f) (λ other. h.done x q (omega arith) f);
        }
      where
        found : (x : ℕ) (q : Row) → x ≡ k → rule_at sh.rules u.state x ≡ some q → Reached (vs ++ h.more) u x q
        found x q same f =
            let er : r ≡ q = cc (ap (rule_at sh.rules u.state) same) in
            let (w, n, ew) = map-mem state_of (vs ++ h.more) (subst (Memᴰ r.target) h.is m) in (
              w,
              n,
              sym ew ∙ ap (λ z. z.target) er,
              ⊎_elim (λ a. inr (ahead w a x))
                  (λ a.
                  let (y, l, ey) = all-mem (λ w. (x : ℕ) × (x < k) × (w.word ≡ u.word ++ x ∷ [])) h.more w h.words a in
                  inr (subst (λ z. After z (u.word ++ x ∷ [])) (sym ey) (after-input u.word y x (omega arith))))
                  (mathlib.Core.List.Memᴰ.append_cases vs n),
            )

    -- the state is new
    round-new : (k : ℕ) (met : List ℕ) (r : Row) → rule_at sh.rules u.state k ≡ some r → Round vs u k met → Round vs u (suc k) (met ++ r.target ∷ [])
    unfolding Ascending
    round-new k met r e h =
        record {
          more = h.more ++ v ∷ [];
          is = ap (λ l. l ++ r.target ∷ []) h.is ∙ sym (map-append state_of (vs ++ h.more) (v ∷ [])) ∙ ap (map state_of) (append_assoc vs h.more (v ∷ []));
          words = all_snoc (λ w. (x : ℕ) × (x < suc k) × (w.word ≡ u.word ++ x ∷ [])) h.more v
              (all-imp _ (λ w. (x : ℕ) × (x < k) × (w.word ≡ u.word ++ x ∷ [])) (λ w a. (a.0, omega (arith, a.1), a.2)) h.more h.words) (k, omega arith, refl);
          leads = all_snoc Leads h.more v h.leads (after-snoc sh.rules 0 u.word k ∙ rw (here, e) refl);
          up = ascending-append Earlier h.more (v ∷ []) h.up (tt, tt)
              (all-imp _ (λ w. (x : ℕ) × (x < k) × (w.word ≡ u.word ++ x ∷ []))
              (λ w a. (subst (λ z. After z (u.word ++ k ∷ [])) (sym a.2) (after-input u.word a.0 k a.1), tt)) h.more h.words);
          done = λ x q l f. by_cases (ℕ_discrete x k) (λ same. found x q same f)
              (λ other. let (w, m, es, ew) = h.done x q (omega arith) f in (w, wider vs h.more v w m, es, ew));
        }
      where
        v : Visit
        v = record { state = r.target; word = u.word ++ k ∷ [] }

        found : (x : ℕ) (q : Row) → x ≡ k → rule_at sh.rules u.state x ≡ some q → Reached (vs ++ (h.more ++ v ∷ [])) u x q
        found x q same f =
            let er : r ≡ q = cc (ap (rule_at sh.rules u.state) same) in
            (v, mathlib.Core.List.Memᴰ.append_right vs (mathlib.Core.List.Memᴰ.append_right h.more (mathlib.Core.List.Memᴰ.head refl)), ap (λ z. z.target) er, inl (ap (λ z. u.word ++ z ∷ []) (sym same)))

    round : (met : List ℕ) → met ≡ map state_of vs → (k : ℕ) → Round vs u k (meet_from sh.rules u.state met k)
    unfolding meet_from Ascending
    round met e zero =
        record { more = []; is = e ∙ ap (map state_of) (sym (append-nil vs)); words = tt; leads = tt; up = tt; done = λ x r l f. absurd (omega arith) }
    round met e (suc k) = go (rule_at sh.rules u.state k) refl (round met e k)
      where
        before : List ℕ
        before = meet_from sh.rules u.state met k

        go : (o : Option Row) → rule_at sh.rules u.state k ≡ o → Round vs u k before → Round vs u (suc k) (maybe o before (λ r. meet before r.target))
        go none eo h = round-none k before eo h
        go (some r) eo h = by (ltb (place_in r.target before) (length before)) refl
          where
            by : (b : Bool) → ltb (place_in r.target before) (length before) ≡ b → Round vs u (suc k) (cond b before (before ++ r.target ∷ []))
            by true eb = round-old k before r eo (place-mem r.target before (ltb-true _ _ eb)) h
            by false eb = round-new k before r eo h

  -- ---- the search
  record Trail (i : ℕ) (met : List ℕ) : Type 0 where
    visits : List Visit
    is : met ≡ map state_of visits
    begins : Memᴰ (record { state = 0; word = [] }) visits
    leads : All Leads visits
    up : Ascending Earlier visits
    ahead : (v : Visit) → Memᴰ v (drop i visits) → (w : Visit) → Memᴰ w visits → (x : ℕ) → After w.word (v.word ++ x ∷ [])
    settled : (v : Visit) → Memᴰ v visits → Memᴰ v (drop i visits) ⊎ Settled visits v

  -- a look at u, which stands first of those not looked at
  module _ (i : ℕ) (met : List ℕ) (h : Trail i met) (u : Visit) (rest : List Visit) (e : drop i h.visits ≡ u ∷ rest) where
    at-u : Memᴰ u (drop i h.visits)
    at-u = subst (Memᴰ u) (sym e) (mathlib.Core.List.Memᴰ.head refl)

    at_rest : (w : Visit) → Memᴰ w rest → Memᴰ w (drop i h.visits)
    at_rest w m = subst (Memᴰ w) (sym e) (mathlib.Core.List.Memᴰ.tail m)

    u-first : (w : Visit) → Memᴰ w rest → Earlier u w
    unfolding Ascending
    u-first w m = let a = subst (Ascending Earlier) e (drop-up Earlier i h.visits h.up) in all-mem (Earlier u) rest w a.0 m

    looked : Round h.visits u sh.size.inputs (meet_from sh.rules u.state met sh.size.inputs)
    looked =
        round h.visits u (all-mem Leads h.visits u h.leads (drop-mem i h.visits u at-u)) (λ w m x. h.ahead u at-u w m x) met h.is sh.size.inputs

    abbrev now : List Visit
    now = h.visits ++ looked.more

    left : drop (suc i) now ≡ rest ++ looked.more
    left =
        let inside : suc i ≤ length h.visits = let k : length h.visits - i ≡ suc (length rest) = sym (length-drop i h.visits) ∙ ap length e in omega arith in
        drop-append-le (suc i) h.visits looked.more inside
        ∙ ap (λ l. l ++ looked.more) (ap (λ j. drop j h.visits) (sym (add-one i)) ∙ sym (drop-drop 1 i h.visits) ∙ ap (drop 1) e)

    word_of : (w : Visit) → Memᴰ w looked.more → (x : ℕ) × (x < sh.size.inputs) × (w.word ≡ u.word ++ x ∷ [])
    word_of w m = all-mem (λ w. (x : ℕ) × (x < sh.size.inputs) × (w.word ≡ u.word ++ x ∷ [])) looked.more w looked.words m

    -- what is met comes before all that is still to come
    ahead-old-old : (v w : Visit) (x : ℕ) → Memᴰ v rest → Memᴰ w h.visits → After w.word (v.word ++ x ∷ [])
    ahead-old-old v w x m n = h.ahead v (at_rest v m) w n x

    ahead-old-new : (v w : Visit) (x : ℕ) → Memᴰ v rest → Memᴰ w looked.more → After w.word (v.word ++ x ∷ [])
    ahead-old-new v w x m n =
        let (y, l, ey) = word_of w n in
        subst (λ z. After z (v.word ++ x ∷ [])) (sym ey) (after-append u.word v.word (y ∷ []) (x ∷ []) refl (u-first v m))

    ahead-new-old : (v w : Visit) (x : ℕ) → Memᴰ v looked.more → Memᴰ w h.visits → After w.word (v.word ++ x ∷ [])
    ahead-new-old v w x m n =
        let (y, l, ey) = word_of v m in
        subst (λ z. After w.word (z ++ x ∷ [])) (sym ey) (after-trans w.word (u.word ++ y ∷ []) _ (h.ahead u at-u w n y) (after-longer (u.word ++ y ∷ []) x))

    ahead-new-new : (v w : Visit) (x : ℕ) → Memᴰ v looked.more → Memᴰ w looked.more → After w.word (v.word ++ x ∷ [])
    ahead-new-new v w x m n =
        let (y, l, ey) = word_of v m in
        let (z, k, ez) = word_of w n in
        inl (omega (arith, ap length ey, ap length ez, length-append u.word (y ∷ []), length-append u.word (z ∷ []), length-append v.word (x ∷ [])))

    input-below : (s x : ℕ) (r : Row) → rule_at sh.rules s x ≡ some r → x < sh.size.inputs
    input-below s x r f = let at = rule-row sh wf s x r f in omega (arith, at.input, at.row.input)

    settled-now : (v : Visit) → Memᴰ v h.visits → Memᴰ v (drop (suc i) now) ⊎ Settled now v
    settled-now v m =
        ⊎_elim
        (λ d.
        ⊎_elim (λ same. inr (λ x r f.
        let f' : rule_at sh.rules u.state x ≡ some r = ap (λ z. rule_at sh.rules z.state x) (sym same) ∙ f in
        subst (λ z. Reached now z x r) (sym same) (looked.done x r (input-below v.state x r f) f')))
        (λ t. inl (subst (Memᴰ v) (sym left) (mathlib.Core.List.Memᴰ.append_left looked.more t)))
        (mathlib.Core.List.Memᴰ.cases_cons (subst (Memᴰ v) e d)))
        (λ k. inr (λ x r f. let (w, n, es, ew) = k x r f in (w, mathlib.Core.List.Memᴰ.append_left looked.more n, es, ew)))
        (h.settled v m)

    trail-look : Trail (suc i) (meet_from sh.rules u.state met sh.size.inputs)
    trail-look =
        record {
          visits = now;
          is = looked.is;
          begins = mathlib.Core.List.Memᴰ.append_left looked.more h.begins;
          leads = all_append Leads h.visits looked.more h.leads looked.leads;
          up = ascending-append Earlier h.visits looked.more h.up looked.up
              (mem-all (λ v. All (Earlier v) looked.more) h.visits (λ v m. mem-all (Earlier v) looked.more
              (λ w n. let (y, l, ey) = word_of w n in subst (After v.word) (sym ey) (h.ahead u at-u v m y))));
          ahead = λ v m w n x.
              ⊎_elim (λ a. ⊎_elim (λ b. ahead-old-old v w x a b) (λ b. ahead-old-new v w x a b) (mathlib.Core.List.Memᴰ.append_cases h.visits n))
              (λ a. ⊎_elim (λ b. ahead-new-old v w x a b) (λ b. ahead-new-new v w x a b) (mathlib.Core.List.Memᴰ.append_cases h.visits n))
              (mathlib.Core.List.Memᴰ.append_cases rest (subst (Memᴰ v) left m));
          settled = λ v m. ⊎_elim (settled-now v) (λ a. inl (subst (Memᴰ v) (sym left) (mathlib.Core.List.Memᴰ.append_right rest a))) (mathlib.Core.List.Memᴰ.append_cases h.visits m);
        }

  trail_more : (i : ℕ) (met : List ℕ) → Trail i met → Trail (suc i) (maybe (first (drop i met)) met (λ s. meet_from sh.rules s met sh.size.inputs))
  trail_more i met h =
      subst (λ l. Trail (suc i) (maybe (first l) met (λ s. meet_from sh.rules s met sh.size.inputs))) (sym (ap (drop i) h.is ∙ drop-map state_of i h.visits))
      (go (drop i h.visits) refl)
    where
      go : (l : List Visit) → drop i h.visits ≡ l → Trail (suc i) (maybe (first (map state_of l)) met (λ s. meet_from sh.rules s met sh.size.inputs))
      go [] e =
          record {
            visits = h.visits;
            is = h.is;
            begins = h.begins;
            leads = h.leads;
            up = h.up;
            ahead = λ v m w n x. absurd (mathlib.Core.List.Memᴰ.not-nil (subst (Memᴰ v) none_left m));
            settled = λ v m. ⊎_elim (λ d. absurd (mathlib.Core.List.Memᴰ.not-nil (subst (Memᴰ v) e d))) (λ k. inr k) (h.settled v m);
          }
        where
          none_left : drop (suc i) h.visits ≡ []
          none_left = ap (λ j. drop j h.visits) (sym (add-one i)) ∙ sym (drop-drop 1 i h.visits) ∙ ap (drop 1) e
      go (u ∷ rest) e = trail-look i met h u rest e

  trail : (i : ℕ) → Trail i (met_by sh i)
  unfolding met_by Ascending after
  trail zero =
      record {
        visits = record { state = 0; word = [] } ∷ [];
        is = refl;
        begins = mathlib.Core.List.Memᴰ.head refl;
        leads = (refl, tt);
        up = (tt, tt);
        ahead = λ v m w n x.
            ⊎_elim (λ e. inl (omega (arith, ap (λ z. length z.word) e, length-append v.word (x ∷ [])))) (λ t. absurd (mathlib.Core.List.Memᴰ.not-nil t)) (mathlib.Core.List.Memᴰ.cases_cons n);
        settled = λ v m. inl m;
      }
  trail (suc i) = trail_more i (met_by sh i) (trail i)

  -- no sequence to a state comes before the one by which it is met
  least-word : (vs : List Visit) → ((v : Visit) → Memᴰ v vs → Settled vs v) → (xs : List ℕ) (v : Visit) (t : ℕ) → Memᴰ v vs → after sh.rules v.state xs ≡ some t →
      (w : Visit) × Memᴰ w vs × (w.state ≡ t) × AtMost w.word (v.word ++ xs)
  unfolding after
  least-word vs all [] v t m e = let same : v.state ≡ t = cc in (v, m, same, inl (sym (append-nil v.word)))
  least-word vs all (x ∷ xs) v t m e = go (rule_at sh.rules v.state x) refl (λ w. least-word vs all xs w t) e
    where
      go : (o : Option Row) → rule_at sh.rules v.state x ≡ o →
          ((w : Visit) → Memᴰ w vs → after sh.rules w.state xs ≡ some t → (z : Visit) × Memᴰ z vs × (z.state ≡ t) × AtMost z.word (w.word ++ xs)) →
          maybe o none (λ r. after sh.rules r.target xs) ≡ some t → (z : Visit) × Memᴰ z vs × (z.state ≡ t) × AtMost z.word (v.word ++ x ∷ xs)
      go none q ih h = never (cc)
      go (some r) q ih h =
          let (w, n, es, ew) = all v m x r q in
          let (z, k, ez, ek) = ih w n (ap (λ s. after sh.rules s xs) es ∙ h) in
          (z, k, ez, most-trans z.word (w.word ++ xs) (v.word ++ x ∷ xs) ek (subst (AtMost (w.word ++ xs)) (append_assoc v.word (x ∷ []) xs) (most-append w.word (v.word ++ x ∷ []) xs ew)))

  -- some sequence leads to s and comes before every sequence that leads to t
  pub first-reached : (s t : ℕ) → s < sh.size.states → t < sh.size.states → number_of sh s < number_of sh t →
      (xs : List ℕ) × (after sh.rules 0 xs ≡ some s) × ((ys : List ℕ) → after sh.rules 0 ys ≡ some t → After xs ys)
  unfolding number_of order
  first-reached s t ls lt less =
      let h = trail sh.size.states in
      let vs = h.visits in
      let d : Visit = record { state = 0; word = [] } in
      let i = place_in s (order sh) in
      let j = place_in t (order sh) in
      let many : length (order sh) ≡ length vs = ap length h.is ∙ length-map vs state_of in
      let li = place-below s (order sh) (order-has sh wf s ls) in
      let lj = place-below t (order sh) (order-has sh wf t lt) in
      let at : (k : ℕ) → k < length vs → get_or (order sh) k 0 ≡ (get_or vs k d).state = λ k l. ap (λ l. get_or l k 0) h.is ∙ get_or-map-below state_of vs k 0 d l in
      let v = get_or vs i d in
      let w = get_or vs j d in
      let es : v.state ≡ s = sym (at i (omega arith)) ∙ place_at s (order sh) 0 li in
      let et : w.state ≡ t = sym (at j (omega arith)) ∙ place_at t (order sh) 0 lj in
      let mv : Memᴰ v vs = at_mem vs i d (omega arith) in
      let mw : Memᴰ w vs = at_mem vs j d (omega arith) in
      let up : After v.word w.word = ascending-at Earlier vs i j d h.up less (omega arith) in
      let empty : drop sh.size.states vs ≡ [] = drop_of_length-le vs {i = sh.size.states} (omega (arith, order-few sh wf)) in
      let all : (u : Visit) → Memᴰ u vs → Settled vs u = λ u m. ⊎_elim (λ n. absurd (mathlib.Core.List.Memᴰ.not-nil (subst (Memᴰ u) empty n))) (λ k. k) (h.settled u m) in
      let distinct : Distinct (map state_of vs) = subst (λ l. Distinct l) h.is (order-distinct sh wf) in (
        v.word,
        all-mem Leads vs v h.leads mv ∙ ap (λ z. some z) es,
        λ ys e.
            let (z, m, ez, k) = least-word vs all ys d t h.begins e in
            let same : z ≡ w = one-visit vs z w distinct m mw (ez ∙ sym et) in
            ⊎_elim (λ q. subst (After v.word) (ap (λ u. u.word) (sym same) ∙ q) up) (λ q. after-trans v.word w.word ys up (subst (λ u. After u.word ys) same q)) k,
      )
