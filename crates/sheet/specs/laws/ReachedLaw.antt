-- The rounds of `reached_within` find the states that some input sequence along rules leads to.
use Rattle.std.specs.Prelude.{◌≡◌, Bool, ◌||◌, ◌&&◌, cond}
use Rattle.std.proofs.Math.Path.{refl, ap, sym}
use Rattle.std.proofs.Common.{◌∙◌, subst, arith, eqb-true, eq-eqb}
use Rattle.std.proofs.Math.Bool.{true, false}
use Rattle.std.proofs.Math.Logic.{⊎_elim}
use Rattle.std.proofs.Math.Option.{Option, none, some}
use mathlib.Core.List.{List, [], ◌∷◌, ◌++◌}
use Prim.Native.Nat.{ℕ, zero, suc, ◌<◌, ◌≤◌}
use Rattle.std.proofs.Math.Dec.{eqb}
use Rattle.std.proofs.lemmas.Bool.{eqb-false}
use Rattle.sheet.specs.declared.Row.{Row}
use Rattle.lists.specs.Lists.{maybe, All, count, any, all}
use Rattle.sheet.specs.Sheet.{Sheet, rule_at, after, leads, reached_within, all_reached}
use Rattle.sheet.specs.WellFormed.{RowIn, Reachable}
use Rattle.lists.specs.laws.TestLaw.{never, both, either, or_left, or_right, and_both}
use Rattle.sheet.specs.laws.RowLaw.{rule-at, rule-has, after-snoc}

-- below n + 1: below n, or n
below : {P : ℕ → Type 0} (n : ℕ) → ((i : ℕ) → i < n → P i) → P n → (i : ℕ) → i < suc n → P i
below {P} n h e i k = one (eqb i n) refl
  where
    one : (b : Bool) → eqb i n ≡ b → P i
    one true q = subst P (sym (eqb-true i n q)) e
    one false q = let ne = eqb-false i n q in h i (omega arith)

-- what each step keeps holds from there on
onward : {P : ℕ → Type 0} → ((j : ℕ) → P j → P (suc j)) → (m i : ℕ) → i ≤ m → P i → P m
onward {P} step zero i k h = subst P (omega arith) h
onward {P} step (suc m) i k h = one (eqb i (suc m)) refl (onward step m i)
  where
    one : (b : Bool) → eqb i (suc m) ≡ b → (i ≤ m → P i → P m) → P (suc m)
    one true q ih = subst P (eqb-true i (suc m) q) h
    one false q ih = let ne = eqb-false i (suc m) q in step m (ih (omega arith) h)

-- one number below n passes
pub any_some : (p : ℕ → Bool) (n : ℕ) → any p n ≡ true → (i : ℕ) × (i < n) × (p i ≡ true)
unfolding any
any_some p zero h = never (cc)
any_some p (suc n) h = ⊎_elim (λ e. (n, omega arith, e)) (λ e. let (i, k, q) = any_some p n e in (i, omega arith, q)) (either (p n) (any p n) h)

pub some-any : (p : ℕ → Bool) (n : ℕ) → (i : ℕ) → i < n → p i ≡ true → any p n ≡ true
unfolding any
some-any p zero i k e = absurd (omega arith)
some-any p (suc n) i k e = below {P = λ i. p i ≡ true → any p (suc n) ≡ true} n (λ j l f. or_right (p n) (any p n) (some-any p n j l f)) (or_left (p n) (any p n)) i k e

any_same : (p q : ℕ → Bool) (n : ℕ) → ((i : ℕ) → i < n → p i ≡ q i) → any p n ≡ any q n
unfolding any
any_same p q zero h = refl
any_same p q (suc n) h = rw (h n (omega arith), any_same p q n (λ i k. h i (omega arith)))

-- all numbers below n pass
pub all-each : (p : ℕ → Bool) (n : ℕ) → all p n ≡ true → (i : ℕ) → i < n → p i ≡ true
unfolding all
all-each p zero h i k = absurd (omega arith)
all-each p (suc n) h i k = let t = both (p n) (all p n) h in below {P = λ i. p i ≡ true} n (all-each p n t.1) t.0 i k

pub each_all : (p : ℕ → Bool) (n : ℕ) → ((i : ℕ) → i < n → p i ≡ true) → all p n ≡ true
unfolding all
each_all p zero h = refl
each_all p (suc n) h = rw (h n (omega arith)) (each_all p n (λ i k. h i (omega arith)))

-- at most n numbers below n pass
pub count_most : (p : ℕ → Bool) (n : ℕ) → count p n ≤ n
unfolding count
count_most p zero = omega arith
count_most p (suc n) = one (p n) (count_most p n)
  where
    one : (b : Bool) → count p n ≤ n → cond b (suc (count p n)) (count p n) ≤ suc n
    one true h = omega arith
    one false h = omega arith

-- one of two sets of numbers within the other: no fewer pass, and the same ones or more
record Inside (p q : ℕ → Bool) (n : ℕ) : Type 0 where
  each : (i : ℕ) → i < n → p i ≡ true → q i ≡ true

data Grows (p q : ℕ → Bool) (n : ℕ) : Type 0 where
  same : ((i : ℕ) → i < n → q i ≡ p i) → Grows p q n
  more : count p n < count q n → Grows p q n

count-up : (p q : ℕ → Bool) (n : ℕ) → Inside p q n → count p n ≤ count q n
unfolding count
count-up p q zero h = omega arith
count-up p q (suc n) h = one (p n) refl (q n) refl (count-up p q n (record { each = λ i k. h.each i (omega arith) }))
  where
    one : (a : Bool) → p n ≡ a → (b : Bool) → q n ≡ b → count p n ≤ count q n → cond a (suc (count p n)) (count p n) ≤ cond b (suc (count q n)) (count q n)
    one true e true f k = omega arith
    one true e false f k = never (cc (h.each n (omega arith) e))
    one false e true f k = omega arith
    one false e false f k = k

grows : (p q : ℕ → Bool) (n : ℕ) → Inside p q n → Grows p q n
unfolding count
grows p q zero h = same (λ i k. absurd (omega arith))
grows p q (suc n) h =
    let rest : Inside p q n = record { each = λ i k. h.each i (omega arith) } in
    one (p n) refl (q n) refl (grows p q n rest) (count-up p q n rest)
  where
    one : (a : Bool) → p n ≡ a → (b : Bool) → q n ≡ b → Grows p q n → count p n ≤ count q n → Grows p q (suc n)
    one true e true f (same g) k = same (below n g (f ∙ sym e))
    one true e true f (more g) k = more (rw (e, f) (omega arith))
    one true e false f g k = never (cc (h.each n (omega arith) e))
    one false e true f g k = more (rw (e, f) (omega arith))
    one false e false f (same g) k = same (below n g (f ∙ sym e))
    one false e false f (more g) k = more (rw (e, f) g)

count-one : (p : ℕ → Bool) (n : ℕ) → 0 < n → p 0 ≡ true → 1 ≤ count p n
unfolding count
count-one p zero k e = absurd (omega arith)
count-one p (suc zero) k e = rw e (omega arith)
count-one p (suc (suc n)) k e = one (p (suc n)) (count-one p (suc n) (omega arith) e)
  where
    one : (b : Bool) → 1 ≤ count p (suc n) → 1 ≤ cond b (suc (count p (suc n))) (count p (suc n))
    one true h = omega arith
    one false h = h

module _ (sh : Sheet) where
  -- one round from a set of states
  round : (ℕ → Bool) → ℕ → Bool
  round g t = any (λ s. g s && any (λ x. leads sh.rules s x t) sh.size.inputs) sh.size.states

  within-suc : (j t : ℕ) → reached_within sh (suc j) t ≡ reached_within sh j t || round (reached_within sh j) t
  unfolding reached_within round
  within-suc j t = refl

  within-up : (j t : ℕ) → reached_within sh j t ≡ true → reached_within sh (suc j) t ≡ true
  within-up j t e = rw within-suc (or_left (reached_within sh j t) (round (reached_within sh j) t) e)

  -- the rounds may end once every state is found
  pub all-early : (j : ℕ) → j ≤ sh.size.states → all (reached_within sh j) sh.size.states ≡ true → all_reached sh ≡ true
  unfolding all_reached
  all-early j k e =
      each_all _ sh.size.states
      (λ t i. onward {P = λ m. reached_within sh m t ≡ true} (λ m. within-up m t) sh.size.states j k (all-each _ sh.size.states e t i))

  within-start : (j : ℕ) → reached_within sh j 0 ≡ true
  unfolding reached_within
  within-start zero = refl
  within-start (suc j) = within-up j 0 (within-start j)

  -- a round that finds nothing new
  record Stable (j : ℕ) : Type 0 where
    same-states : (t : ℕ) → t < sh.size.states → reached_within sh (suc j) t ≡ reached_within sh j t

  stable-suc : (j : ℕ) → Stable j → Stable (suc j)
  unfolding round
  stable-suc j h = record {
    same-states = λ t k.
        rw (within-suc (suc j) t, again t, h.same-states t k) (sym (within-suc j t) ∙ h.same-states t k);
  }
    where
      again : (t : ℕ) → round (reached_within sh (suc j)) t ≡ round (reached_within sh j) t
      again t = any_same _ _ sh.size.states (λ s k. rw (h.same-states s k))

  data Found (j : ℕ) : Type 0 where
    stable : (i : ℕ) → i ≤ j → Stable i → Found j
    many : suc j ≤ count (reached_within sh j) sh.size.states → Found j

  module _ (some-state : 0 < sh.size.states) where
    -- each round before a stable one finds a state more
    found : (j : ℕ) → Found j
    found zero = many (count-one (reached_within sh 0) sh.size.states some-state (within-start 0))
    found (suc j) = one (found j)
      where
        next : suc j ≤ count (reached_within sh j) sh.size.states → Grows (reached_within sh j) (reached_within sh (suc j)) sh.size.states → Found (suc j)
        next k (same e) = stable j (omega arith) (record { same-states = e })
        next k (more e) = many (omega arith)

        one : Found j → Found (suc j)
        one (stable i k e) = stable i (omega arith) e
        one (many k) = next k (grows (reached_within sh j) (reached_within sh (suc j)) sh.size.states (record { each = λ i _ e. within-up j i e }))

    -- after as many rounds as states nothing new comes
    settled : Stable sh.size.states
    settled = one (found sh.size.states)
      where
        one : Found sh.size.states → Stable sh.size.states
        one (stable i k e) = onward stable-suc sh.size.states i k e
        one (many k) = let most = count_most (reached_within sh sh.size.states) sh.size.states in absurd (omega arith)

    closed : (s x t : ℕ) → s < sh.size.states → x < sh.size.inputs → t < sh.size.states → leads sh.rules s x t ≡ true
        → reached_within sh sh.size.states s ≡ true → reached_within sh sh.size.states t ≡ true
    unfolding round
    closed s x t ks kx kt l e =
        let g = reached_within sh sh.size.states in
        let inner : any (λ y. leads sh.rules s y t) sh.size.inputs ≡ true = some-any _ sh.size.inputs x kx l in
        let outer : round g t ≡ true = some-any _ sh.size.states s ks (and_both (g s) _ e inner) in
        sym (settled.same-states t kt) ∙ (within-suc sh.size.states t ∙ or_right (g t) (round g t) outer)

    module _ (in-range : All (RowIn sh.size) sh.rules) where
      goes_on : (xs : List ℕ) (s t : ℕ) → s < sh.size.states → reached_within sh sh.size.states s ≡ true → after sh.rules s xs ≡ some t → reached_within sh sh.size.states t ≡ true
      unfolding after leads
      goes_on [] s t k e a = let same : s ≡ t = cc in rw (← same) e
      goes_on (x ∷ xs) s t k e a = one (rule_at sh.rules s x) refl a (λ u. goes_on xs u t)
        where
          one : (o : Option Row) → rule_at sh.rules s x ≡ o → maybe o none (λ r. after sh.rules r.target xs) ≡ some t
              → ((u : ℕ) → u < sh.size.states → reached_within sh sh.size.states u ≡ true → after sh.rules u xs ≡ some t → reached_within sh sh.size.states t ≡ true)
              → reached_within sh sh.size.states t ≡ true
          one none q a ih = never (cc)
          one (some r) q a ih =
              let i = rule-has s x (RowIn sh.size) sh.rules r in-range q in
              let at = rule-at s x sh.rules r q in
              ih r.target i.target (closed s x r.target k (omega arith) i.target (rw q (eq-eqb r.target r.target refl)) e) a

      -- every state that a sequence reaches is found
      pub each-reached : ((t : ℕ) → t < sh.size.states → Reachable sh t) → all_reached sh ≡ true
      unfolding all_reached
      each-reached h = each_all (reached_within sh sh.size.states) sh.size.states (λ t k. let r = h t k in goes_on r.inputs 0 t some-state (within-start sh.size.states) r.leads)

  one_more : (xs : List ℕ) (s x t : ℕ) → after sh.rules 0 xs ≡ some s → leads sh.rules s x t ≡ true → after sh.rules 0 (xs ++ x ∷ []) ≡ some t
  unfolding leads
  one_more xs s x t a l = rw (after-snoc sh.rules 0 xs x, a) (one (rule_at sh.rules s x) l)
    where
      one : (o : Option Row) → maybe o false (λ r. eqb r.target t) ≡ true → maybe o none (λ r. some r.target) ≡ some t
      one none e = never (cc)
      one (some r) e = ap (λ (u : ℕ). some u) (eqb-true r.target t e)

  sound : (j t : ℕ) → reached_within sh j t ≡ true → Reachable sh t
  unfolding reached_within after round
  sound zero t e = record { inputs = []; leads = ap (λ (u : ℕ). some u) (sym (eqb-true t 0 e)) }
  sound (suc j) t e = ⊎_elim (sound j t) (λ q. one q (sound j)) (either (reached_within sh j t) (round (reached_within sh j) t) e)
    where
      one : round (reached_within sh j) t ≡ true → ((s : ℕ) → reached_within sh j s ≡ true → Reachable sh s) → Reachable sh t
      one q ih =
          let (s, ks, w) = any_some _ sh.size.states q in
          let v = both (reached_within sh j s) _ w in
          let (x, kx, l) = any_some _ sh.size.inputs v.1 in
          let r = ih s v.0 in
          record { inputs = r.inputs ++ x ∷ []; leads = one_more r.inputs s x t r.leads l }

  -- every state that is found is reached by a sequence
  pub reached-each : all_reached sh ≡ true → (t : ℕ) → t < sh.size.states → Reachable sh t
  unfolding all_reached
  reached-each e t k = sound sh.size.states t (all-each (reached_within sh sh.size.states) sh.size.states e t k)
