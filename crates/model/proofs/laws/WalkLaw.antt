-- The laws of a walk: what is left from a place, after a take, with a test added; and how judging goes by it.
use Rattle.std.specs.Prelude.{◌≡◌, Bool, ◌&&◌, cond, ℕ, zero}
use Rattle.std.proofs.Math.Path.{refl, sym, ap}
use Rattle.std.proofs.Common.{◌∙◌, subst}
use Rattle.std.proofs.Math.Bool.{true, false}
use Rattle.std.proofs.Math.Logic.{inl, inr, ⊎_elim}
use Rattle.std.proofs.Math.Option.{Option, none, some}
use mathlib.Core.List.{List, [], ◌∷◌, ◌++◌, Memᴰ}
use Rattle.lists.specs.Lists.{maybe, is_none, All, Ascending, Before}
use Rattle.lists.specs.laws.TestLaw.{never, both, and_both}
use Rattle.lists.specs.laws.AllLaw.{all-mem}
use Rattle.sheet.specs.Sheet.{Sheet}
use Rattle.sheet.specs.Reading.{with_tests}
use Rattle.sheet.specs.WellFormed.{WellFormed}
use Rattle.sheet.specs.laws.RowLaw.{precedes-before, before-precedes, before-trans, before-irreflexive}
use Rattle.model.specs.Mutant.{mutants, IsMutant}
use Rattle.model.specs.Suite.{Place, later_test, wrong_in, first_failed_in, first_failed_of, Passes, compare_of, or_else, survivor_among, judge_of}
use Rattle.model.specs.Longer.{with_test}
use Rattle.model.specs.Walk.{Standing, start, after, end, keep, Later, is_later, passes, rest, first_taken, take_of, departing, Remains, TakenMeans}
use Rattle.model.proofs.laws.MutantLaw.{listed, listed-in-range, mutants-ascending}
use Rattle.model.proofs.laws.LongerLaw.{slots-longer, wrong-longer}
use Rattle.model.proofs.laws.JudgeLaw.{compared}

-- ---- keeping
module _ {A : Type 0} (p : A → Bool) where
  pub keep-mem : (xs : List A) {x : A} → Memᴰ x (keep p xs) → Memᴰ x xs × (p x ≡ true)
  unfolding keep
  keep-mem [] m = absurd (mathlib.Core.List.Memᴰ.not-nil m)
  keep-mem (y ∷ ys) {x} m = go (p y) refl m (λ k. keep-mem ys k)
    where
      go : (b : Bool) → p y ≡ b → Memᴰ x (cond b (y ∷ keep p ys) (keep p ys)) → (Memᴰ x (keep p ys) → Memᴰ x ys × (p x ≡ true)) →
          Memᴰ x (y ∷ ys) × (p x ≡ true)
      go true e k ih = ⊎_elim (λ s. (mathlib.Core.List.Memᴰ.head s, ap p s ∙ e)) (λ t. let r = ih t in (mathlib.Core.List.Memᴰ.tail r.0, r.1)) (mathlib.Core.List.Memᴰ.cases_cons k)
      go false e k ih = let r = ih k in (mathlib.Core.List.Memᴰ.tail r.0, r.1)

  pub mem-keep : (xs : List A) {x : A} → Memᴰ x xs → p x ≡ true → Memᴰ x (keep p xs)
  unfolding keep
  mem-keep [] m e = absurd (mathlib.Core.List.Memᴰ.not-nil m)
  mem-keep (y ∷ ys) {x} m e = go (p y) refl (λ k. mem-keep ys k e)
    where
      go : (b : Bool) → p y ≡ b → (Memᴰ x ys → Memᴰ x (keep p ys)) → Memᴰ x (cond b (y ∷ keep p ys) (keep p ys))
      go true h ih = ⊎_elim (λ s. mathlib.Core.List.Memᴰ.head s) (λ t. mathlib.Core.List.Memᴰ.tail (ih t)) (mathlib.Core.List.Memᴰ.cases_cons m)
      go false h ih = ⊎_elim (λ s. let z = sym e ∙ ap p s ∙ h in never (cc)) ih (mathlib.Core.List.Memᴰ.cases_cons m)

  pub keep_all : (P : A → Type 0) (xs : List A) → All P xs → All P (keep p xs)
  unfolding keep
  keep_all P [] a = tt
  keep_all P (x ∷ xs) a = go (p x) (keep_all P xs a.1)
    where
      go : (b : Bool) → All P (keep p xs) → All P (cond b (x ∷ keep p xs) (keep p xs))
      go true h = (a.0, h)
      go false h = h

  pub keep-ascending : (R : A → A → Type 0) (xs : List A) → Ascending R xs → Ascending R (keep p xs)
  unfolding keep Ascending
  keep-ascending R [] a = tt
  keep-ascending R (x ∷ xs) a = go (p x) (keep-ascending R xs a.1)
    where
      go : (b : Bool) → Ascending R (keep p xs) → Ascending R (cond b (x ∷ keep p xs) (keep p xs))
      go true h = (keep_all (R x) xs a.0, h)
      go false h = h

-- the same tests keep the same
pub keep_same : {A : Type 0} (p q : A → Bool) (xs : List A) → ((x : A) → p x ≡ q x) → keep p xs ≡ keep q xs
unfolding keep
keep_same p q [] h = refl
keep_same p q (x ∷ xs) h = rw (h x, keep_same p q xs h) refl

-- one test after another
pub keep-keep : {A : Type 0} (p q : A → Bool) (xs : List A) → keep q (keep p xs) ≡ keep (λ x. p x && q x) xs
unfolding keep
keep-keep p q [] = refl
keep-keep {A} p q (x ∷ xs) = go (p x) (keep-keep p q xs)
  where
    go : (b : Bool) → keep q (keep p xs) ≡ keep (λ x. p x && q x) xs →
        keep q (cond b (x ∷ keep p xs) (keep p xs)) ≡ cond (b && q x) (x ∷ keep (λ x. p x && q x) xs) (keep (λ x. p x && q x) xs)
    go true h = rw h refl
    go false h = h

-- two ascending lists with the same elements are the same
pub same-ascending : {R : List ℕ → List ℕ → Type 0} → ((x : List ℕ) → R x x → ⊥) → ((x y z : List ℕ) → R x y → R y z → R x z) →
    (xs ys : List (List ℕ)) → Ascending R xs → Ascending R ys →
    ((x : List ℕ) → Memᴰ x xs → Memᴰ x ys) → ((x : List ℕ) → Memᴰ x ys → Memᴰ x xs) → xs ≡ ys
unfolding Ascending
same-ascending irr trans [] [] a b f g = refl
same-ascending irr trans [] (y ∷ ys) a b f g = absurd (mathlib.Core.List.Memᴰ.not-nil (g y (mathlib.Core.List.Memᴰ.head refl)))
same-ascending irr trans (x ∷ xs) [] a b f g = absurd (mathlib.Core.List.Memᴰ.not-nil (f x (mathlib.Core.List.Memᴰ.head refl)))
same-ascending {R} irr trans (x ∷ xs) (y ∷ ys) a b f g =
    let e : x ≡ y = heads in
    rw (e, same-ascending irr trans xs ys a.1 b.1 (λ z m. fore e z m) (λ z m. back e z m)) refl
  where
    heads : x ≡ y
    heads =
        ⊎_elim (λ e. e)
        (λ m. ⊎_elim (λ e. sym e) (λ n. absurd (irr x (trans x y x (all-mem (R x) xs y a.0 n) (all-mem (R y) ys x b.0 m)))) (mathlib.Core.List.Memᴰ.cases_cons (g y (mathlib.Core.List.Memᴰ.head refl))))
        (mathlib.Core.List.Memᴰ.cases_cons (f x (mathlib.Core.List.Memᴰ.head refl)))

    fore : x ≡ y → (z : List ℕ) → Memᴰ z xs → Memᴰ z ys
    fore e z m =
        ⊎_elim (λ s. absurd (irr x (subst (R x) (s ∙ sym e) (all-mem (R x) xs z a.0 m)))) (λ t. t) (mathlib.Core.List.Memᴰ.cases_cons (f z (mathlib.Core.List.Memᴰ.tail m)))

    back : x ≡ y → (z : List ℕ) → Memᴰ z ys → Memᴰ z xs
    back e z m =
        ⊎_elim (λ s. absurd (irr y (subst (R y) (s ∙ e) (all-mem (R y) ys z b.0 m)))) (λ t. t) (mathlib.Core.List.Memᴰ.cases_cons (g z (mathlib.Core.List.Memᴰ.tail m)))

-- ---- what is left
none_is : {A : Type 0} (o : Option A) → is_none o ≡ true → o ≡ none
none_is none e = refl
none_is (some a) e = never (cc)

pub later-is : (place : Standing) (b : List ℕ) → is_later place b ≡ true → Later place b
later-is start b e = tt
later-is (after l) b e = precedes-before l b e
later-is end b e = never (cc)

pub is_later_lem : (place : Standing) (b : List ℕ) → Later place b → is_later place b ≡ true
is_later_lem start b h = refl
is_later_lem (after l) b h = before-precedes l b h
is_later_lem end b h = absurd h

module _ (sh : Sheet) (place : Standing) where
  -- exactly the mutants that pass and stand after the place
  pub rest-remains : {b : List ℕ} → Memᴰ b (rest sh place) → Remains sh place b
  unfolding rest
  rest-remains {b} m =
      let k = keep-mem (λ b. passes sh b && is_later place b) (mutants sh) m in
      let t = both (passes sh b) (is_later place b) k.1 in
      record { is = listed-in-range sh b k.0; passes = none_is (first_failed_of sh b) t.0; later = later-is place b t.1 }

  pub remains-rest : {b : List ℕ} → Remains sh place b → Memᴰ b (rest sh place)
  unfolding rest
  remains-rest {b} r =
      mem-keep (λ b. passes sh b && is_later place b) (mutants sh) (listed sh b r.is)
      (and_both (passes sh b) (is_later place b) (rw r.passes refl) (is_later_lem place b r.later))

  -- in dictionary order
  pub rest-ascending : Ascending Before (rest sh place)
  unfolding rest
  rest-ascending = keep-ascending (λ b. passes sh b && is_later place b) Before (mutants sh) (mutants-ascending sh)

-- a list in which b stands once: before it, and after it
pub record Once (b : List ℕ) (bs : List (List ℕ)) : Type 0 where
  pub front : List (List ℕ)
  pub back : List (List ℕ)
  pub is : bs ≡ front ++ b ∷ back
  pub not-front : Memᴰ b front → ⊥
  pub not_back : Memᴰ b back → ⊥

pub ascending-once : (b : List ℕ) (bs : List (List ℕ)) → Ascending Before bs → Memᴰ b bs → Once b bs
unfolding Ascending
ascending-once b [] a m = absurd (mathlib.Core.List.Memᴰ.not-nil m)
ascending-once b (c ∷ bs) a m =
    ⊎_elim
    (λ e.
    record {
      front = [];
      back = bs;
      is = rw e refl;
      not-front = λ n. mathlib.Core.List.Memᴰ.not-nil n;
      not_back = λ n. before-irreflexive c (subst (Before c) e (all-mem (Before c) bs b a.0 n));
    })
    (λ t.
    let o = ascending-once b bs a.1 t in
    record {
      front = c ∷ o.front;
      back = o.back;
      is = ap (λ (l : List (List ℕ)). c ∷ l) o.is;
      not-front = λ n. ⊎_elim (λ e. before-irreflexive c (subst (Before c) e (all-mem (Before c) bs b a.0 t))) (λ k. o.not-front k) (mathlib.Core.List.Memᴰ.cases_cons n);
      not_back = o.not_back;
    })
    (mathlib.Core.List.Memᴰ.cases_cons m)

-- 02: over a walk with no test added every passing mutant comes up exactly once
pub every-once : (sh : Sheet) (b : List ℕ) → IsMutant sh b → Passes sh b → Once b (rest sh start)
every-once sh b is ps = ascending-once b (rest sh start) (rest-ascending sh start) (remains-rest sh start (record { is = is; passes = ps; later = tt }))

-- after the end there is the end again, test added or not
pub rest_end : (sh : Sheet) → rest sh end ≡ []
rest_end sh = go (rest sh end) (λ b m. (rest-remains sh end m).later)
  where
    go : (bs : List (List ℕ)) → ((b : List ℕ) → Memᴰ b bs → ⊥) → bs ≡ []
    go [] h = refl
    go (b ∷ bs) h = absurd (h b (mathlib.Core.List.Memᴰ.head refl))

-- after a take it is the tail
pub rest-tail : (sh : Sheet) (place : Standing) (b : List ℕ) (bs : List (List ℕ)) → rest sh place ≡ b ∷ bs → rest sh (after b) ≡ bs
unfolding Ascending
rest-tail sh place b bs e =
    same-ascending (λ x h. before-irreflexive x h) (λ x y z h k. before-trans x y z h k) (rest sh (after b)) bs (rest-ascending sh (after b)) up.1 fore back
  where
    up : All (Before b) bs × Ascending Before bs
    up = subst (Ascending Before) e (rest-ascending sh place)

    first : Remains sh place b
    first = rest-remains sh place (rw e (mathlib.Core.List.Memᴰ.head refl))

    onward : (p : Standing) (c : List ℕ) → Later p b → Before b c → Later p c
    onward start c h k = tt
    onward (after l) c h k = before-trans l b c h k
    onward end c h k = h

    fore : (c : List ℕ) → Memᴰ c (rest sh (after b)) → Memᴰ c bs
    fore c m =
        let r = rest-remains sh (after b) m in
        let k : Memᴰ c (b ∷ bs) = subst (Memᴰ c) e (remains-rest sh place (record { is = r.is; passes = r.passes; later = onward place c first.later r.later })) in
        ⊎_elim (λ s. absurd (before-irreflexive b (subst (Before b) s r.later))) (λ t. t) (mathlib.Core.List.Memᴰ.cases_cons k)

    back : (c : List ℕ) → Memᴰ c bs → Memᴰ c (rest sh (after b))
    back c m =
        let r = rest-remains sh place {b = c} (rw e (mathlib.Core.List.Memᴰ.tail m)) in
        remains-rest sh (after b) (record { is = r.is; passes = r.passes; later = all-mem (Before b) bs c up.0 m })

-- ---- judging
-- judge shows the first nonconforming mutant of the walk from its start, or complete if it has none
pub judge-walks : (sh : Sheet) → judge_of sh ≡ departing sh (rest sh start)
unfolding judge_of rest survivor_among departing keep
judge-walks sh = go (mutants sh)
  where
    go : (bs : List (List ℕ)) → survivor_among sh bs ≡ departing sh (keep (λ b. passes sh b && true) bs)
    go [] = refl
    go (b ∷ bs) = turn (first_failed_of sh b) (go bs)
      where
        turn : (f : Option Place) → survivor_among sh bs ≡ departing sh (keep (λ b. passes sh b && true) bs) →
            maybe f (or_else b (compare_of sh b) (survivor_among sh bs)) (λ g. survivor_among sh bs)
            ≡ departing sh (cond (is_none f && true) (b ∷ keep (λ b. passes sh b && true) bs) (keep (λ b. passes sh b && true) bs))
        turn none h = rw h refl
        turn (some f) h = h

-- ---- a test added
passes-more : (sh : Sheet) (b : List ℕ) (ts : List (List ℕ)) (t : List ℕ) → is_none (first_failed_in sh b (ts ++ t ∷ [])) ≡ is_none (first_failed_in sh b ts) && is_none (wrong_in sh b t)
unfolding first_failed_in
passes-more sh b [] t = go (wrong_in sh b t)
  where
    go : (w : Option ℕ) → is_none {A = Place} (maybe w none (λ i. some (record { test = zero; position = i }))) ≡ is_none w
    go none = refl
    go (some i) = refl
passes-more sh b (u ∷ ts) t = go (wrong_in sh b u) (first_failed_in sh b (ts ++ t ∷ [])) (first_failed_in sh b ts) (passes-more sh b ts t)
  where
    go : (w : Option ℕ) (o q : Option Place) → is_none o ≡ is_none q && is_none (wrong_in sh b t) →
        is_none (maybe w (later_test o) (λ i. some (record { test = zero; position = i })))
        ≡ is_none (maybe w (later_test q) (λ i. some (record { test = zero; position = i }))) && is_none (wrong_in sh b t)
    go none none none e = e
    go none none (some f) e = e
    go none (some f) none e = e
    go none (some f) (some g) e = e
    go (some i) o q e = refl

module _ (sh : Sheet) (xs : List ℕ) where
  same-wrong : (b : List ℕ) (ts us : List (List ℕ)) → first_failed_in (with_tests sh ts) b us ≡ first_failed_in sh b us
  unfolding first_failed_in
  same-wrong b ts [] = refl
  same-wrong b ts (u ∷ us) = rw (wrong-longer sh ts b u, same-wrong b ts us) refl

  passes-longer : (b : List ℕ) → passes (with_test sh xs) b ≡ passes sh b && is_none (wrong_in sh b xs)
  unfolding first_failed_of
  passes-longer b = ap is_none (same-wrong b (sh.tests ++ xs ∷ []) (sh.tests ++ xs ∷ [])) ∙ passes-more sh b sh.tests xs

  mutants-longer : mutants (with_test sh xs) ≡ mutants sh
  unfolding mutants
  mutants-longer = rw (slots-longer sh (sh.tests ++ xs ∷ [])) refl

  -- with a test added the rest is what of it passes the new test, from whatever place
  pub rest-added : (place : Standing) → rest (with_test sh xs) place ≡ keep (λ b. is_none (wrong_in sh b xs)) (rest sh place)
  unfolding rest
  rest-added place =
      ap (keep (λ b. passes (with_test sh xs) b && is_later place b)) mutants-longer
      ∙ keep_same (λ b. passes (with_test sh xs) b && is_later place b) (λ b. (passes sh b && is_later place b) && is_none (wrong_in sh b xs)) (mutants sh) swap
      ∙ sym (keep-keep (λ b. passes sh b && is_later place b) (λ b. is_none (wrong_in sh b xs)) (mutants sh))
    where
      swap : (b : List ℕ) → passes (with_test sh xs) b && is_later place b ≡ (passes sh b && is_later place b) && is_none (wrong_in sh b xs)
      swap b = rw (passes-longer b) (go (passes sh b) (is_later place b) (is_none (wrong_in sh b xs)))
        where
          go : (p l w : Bool) → (p && w) && l ≡ (p && l) && w
          go true true true = refl
          go true true false = refl
          go true false true = refl
          go true false false = refl
          go false l w = refl

-- ---- a take
module _ (sh : Sheet) (place : Standing) where
  -- none is left
  pub take_none : ((b : List ℕ) → Remains sh place b → ⊥) → take_of sh place ≡ none
  unfolding take_of
  take_none h = go (rest sh place) (λ b m. h b (rest-remains sh place m))
    where
      go : (bs : List (List ℕ)) → ((b : List ℕ) → Memᴰ b bs → ⊥) → first_taken sh bs ≡ none
      go [] n = refl
      go (b ∷ bs) n = absurd (n b (mathlib.Core.List.Memᴰ.head refl))

  -- one is, and none before it
  pub take-some : (b : List ℕ) → Remains sh place b → ((c : List ℕ) → Remains sh place c → Before c b → ⊥) → take_of sh place ≡ some (record { mutant = b; compared = compare_of sh b })
  unfolding take_of Ascending
  take-some b r h = go (rest sh place) (rest-ascending sh place) (remains-rest sh place r) (λ c m. h c (rest-remains sh place m))
    where
      go : (bs : List (List ℕ)) → Ascending Before bs → Memᴰ b bs → ((c : List ℕ) → Memᴰ c bs → Before c b → ⊥) →
          first_taken sh bs ≡ some (record { mutant = b; compared = compare_of sh b })
      go [] a m n = absurd (mathlib.Core.List.Memᴰ.not-nil m)
      go (c ∷ bs) a m n =
          ⊎_elim (λ e. ap (λ (d : List ℕ). some (record { mutant = d; compared = compare_of sh d })) (sym e)) (λ t. absurd (n c (mathlib.Core.List.Memᴰ.head refl) (all-mem (Before c) bs b a.0 t)))
          (mathlib.Core.List.Memᴰ.cases_cons m)

  -- 02: the next passing mutant with the answer of compare, or the end
  pub taken-means : WellFormed sh → TakenMeans sh place (take_of sh place)
  unfolding take_of Ascending
  taken-means wf = go (rest sh place) (rest-ascending sh place) (λ b m. rest-remains sh place m) (λ b r. remains-rest sh place r)
    where
      go : (bs : List (List ℕ)) → Ascending Before bs → ((b : List ℕ) → Memᴰ b bs → Remains sh place b) → ((b : List ℕ) → Remains sh place b → Memᴰ b bs) →
          TakenMeans sh place (first_taken sh bs)
      go [] a f g = λ b r. mathlib.Core.List.Memᴰ.not-nil (g b r)
      go (c ∷ bs) a f g = (
        record {
          remains = f c (mathlib.Core.List.Memᴰ.head refl);
          least = λ d r. ⊎_elim (λ e. inl e) (λ t. inr (all-mem (Before c) bs d a.0 t)) (mathlib.Core.List.Memᴰ.cases_cons (g d r));
        },
        compared sh wf c,
      )
