-- At END: open pairs and reachable states.
use Prim.Native.Nat.{ℕ, zero, suc, ◌+◌, ◌*◌, ◌<◌, ◌≤◌}
use mathlib.Core.Path.{◌≡◌, refl, ap, sym, ◌∙◌}
use mathlib.Core.Bool.{Bool, true, false, ◌||◌, ◌&&◌, cond}
use mathlib.Core.Option.{Option, none, some}
use mathlib.Core.List.{List, [], ◌∷◌}
use native.Mathlib.Nat.{mul-le-mul}
use native.Mathlib.Numerals.{add-one}
use native.Mathlib.Omega.{arith}
use lib.Dec.{ltb, eqb}
use lib.ListN.{length, get_or, set, length-set, replicate, get_or-replicate}
use lib.Seq.{get_or-set_same, get_or-set_other, take-suc}
use Rattle.std.specs.Prelude.{take}
use Rattle.std.specs.List.{list_all}
use Rattle.std.proofs.lemmas.List.Recursion.{and_push}
use borrow.Author.Tests.{lt-ltb, le-ltb, eq-eqb, ne_eqb, eqb-true, eqb-false}
use Rattle.sheet.specs.declared.Row.{Row}
use Rattle.sheet.specs.declared.Size.{Size}
use Rattle.std.specs.Prelude.{Ok, Err}
use Rattle.sheet.specs.Tables.{refusal_of}
use Rattle.lists.specs.Lists.{maybe, last, any, all, count}
use Rattle.sheet.specs.Sheet.{Sheet, rows_at, rule_at, leads, reached_within, all_reached, unruled_choices, choices_at, is_open, open_below, open_pairs, waking_slots, open_slots}
use Rattle.sheet.specs.Reading.{first_broken, finishing}
use Rattle.sheet.specs.words.Tabled.{Within16, Digits, place_of, next_key, rule_target, present, Leads, StartsHold}
use Rattle.ending.specs.words.Ending.{Marks, Follows, Linked, Gathered, end_of}
use Rattle.lists.specs.laws.TestLaw.{never, both, or_right, and_both}
use Rattle.sheet.specs.laws.ReachedLaw.{some-any, all-early}
use Rattle.sheet.specs.laws.WakingLaw.{no-choice, a-choice}
use Rattle.sheet.specs.laws.TablesLaw.{unruled-by}
use Rattle.sheet.specs.laws.RowTableLaw.{If, rule-digits}

pub few-pairs : (z : Size) → Within16 z → z.outputs * z.states ≤ 256
few-pairs z h = mul-le-mul h.outputs h.states

opened : (rows : List Row) → eqb (present rows) 1 ≡ ltb 1 (suc (length rows))
opened [] = refl
opened (r ∷ rows) = sym (lt-ltb 1 (suc (suc (length rows))) (omega arith))

open-some : (o : Option Row) (rows : List Row) (n : ℕ) → rule_target o < 16 → eqb (present rows) 1 ≡ ltb 1 (maybe o n (λ r. suc (length rows)))
open-some none rows n h = absurd (omega arith)
open-some (some r) rows n h = opened rows

open_none : (o : Option Row) (rows : List Row) (n : ℕ) → If Digits o → 16 ≤ rule_target o → ltb 1 n ≡ ltb 1 (maybe o n (λ r. suc (length rows)))
open_none none rows n d h = refl
open_none (some r) rows n d h = absurd (omega (arith, d.target))

module _ (unruled : Bool) (ts ms : List ℕ) (sh : Sheet) (s x : ℕ) (hs : s < 16) (hx : x < 16) (h : Linked unruled ts ms sh) where
  pub open-rule : get_or ts (place_of s x) 0 < 16 → eqb (get_or ms (place_of s x) 0) 1 ≡ is_open sh s x
  unfolding is_open choices_at
  open-rule v =
      ap (λ (n : ℕ). eqb n 1) (h.faulty.at s x hs hx)
      ∙ open-some (rule_at sh.rules s x) (rows_at sh.faults s x) (unruled_choices sh) (omega (arith, h.leads.table.at s x hs hx))

  pub open_free : 16 ≤ get_or ts (place_of s x) 0 → unruled ≡ is_open sh s x
  unfolding is_open choices_at
  open_free v =
      h.unruled-is
      ∙ open_none (rule_at sh.rules s x) (rows_at sh.faults s x) (unruled_choices sh) (rule-digits sh.rules s x h.leads.digits)
      (omega (arith, h.leads.table.at s x hs hx))

pub count_yes : (p : ℕ → Bool) (x n : ℕ) → p x ≡ true → n ≡ count p x → n + 1 ≡ count p (x + 1)
unfolding count
count_yes p x n e h = rw (add-one x, e, h) (add-one (count p x))

pub count_no : (p : ℕ → Bool) (x n : ℕ) → p x ≡ false → n ≡ count p x → n ≡ count p (x + 1)
unfolding count
count_no p x n e h = rw (add-one x, e) h

-- sets of states
pub marks-same : {l : List Bool} {g : ℕ → Bool} (g' : ℕ → Bool) → Marks l g → ((t : ℕ) → t < 16 → g' t ≡ g t) → Marks l g'
marks-same g' h e = record { size = h.size; at = λ t k. h.at t k ∙ sym (e t k) }

pub marks-set : {l : List Bool} {g : ℕ → Bool} (g' : ℕ → Bool) (v : ℕ) → Marks l g → v < 16
    → ((t : ℕ) → t ≡ v → g' t ≡ true) → ((t : ℕ) → (t ≡ v → ⊥) → g' t ≡ g t) → Marks (set l v true) g'
marks-set {l} {g} g' v h k same other = record { size = simp length-set h.size; at = λ t j. go t j (eqb t v) refl }
  where
    go : (t : ℕ) → t < 16 → (b : Bool) → eqb t v ≡ b → get_or (set l v true) t false ≡ g' t
    go t j true e = rw (same t (eqb-true t v e), eqb-true t v e) (get_or-set_same l v true false (omega (arith, h.size)))
    go t j false e = rw (other t (eqb-false t v e)) (get_or-set_other l v t true false (eqb-false t v e) ∙ h.at t j)

or-false : (a : Bool) → a || false ≡ a
or-false true = refl
or-false false = refl

or-hit : (a b : Bool) → a || (true || b) ≡ true
or-hit true b = refl
or-hit false b = refl

or-late : (a b c : Bool) → a || ((true && b) || c) ≡ (a || c) || b
or-late true true c = refl
or-late true false c = refl
or-late false true true = refl
or-late false true false = refl
or-late false false true = refl
or-late false false false = refl

or-known : (a b c : Bool) → (b ≡ true → a ≡ true) → a || (b || c) ≡ a || c
or-known true b c h = refl
or-known false true c h = let e = h refl in never (cc)
or-known false false c h = refl

-- where a rule leads, by its next state
hits : (o : Option Row) (v t : ℕ) → v ≡ rule_target o → v < 16 → t ≡ v → maybe o false (λ r. eqb r.target t) ≡ true
hits none v t e h k = absurd (omega arith)
hits (some r) v t e h k = eq-eqb r.target t (sym e ∙ sym k)

misses : (o : Option Row) (v t : ℕ) → v ≡ rule_target o → (t ≡ v → ⊥) → maybe o false (λ r. eqb r.target t) ≡ false
misses none v t e n = refl
misses (some r) v t e n = ne_eqb r.target t (λ q. n (sym q ∙ sym e))

nowhere : (o : Option Row) (t : ℕ) → If Digits o → 16 ≤ rule_target o → maybe o false (λ r. eqb r.target t) ≡ false
nowhere none t d h = refl
nowhere (some r) t d h = absurd (omega (arith, d.target))

module _ (rules : List Row) (g : ℕ → Bool) (s : ℕ) where
  abbrev pub spreading : ℕ → ℕ → Bool
  spreading x t = g t || any (λ y. leads rules s y t) x

  pub spread_none : {l : List Bool} → Marks l g → Marks l (spreading 0)
  unfolding any
  spread_none h = marks-same (spreading 0) h (λ t k. or-false (g t))

  module _ {ts : List ℕ} (h : Leads ts rules) (hs : s < 16) (x : ℕ) (hx : x < 16) where
    leads-hit : (t : ℕ) → get_or ts (place_of s x) 0 < 16 → t ≡ get_or ts (place_of s x) 0 → leads rules s x t ≡ true
    unfolding leads
    leads-hit t v e = hits (rule_at rules s x) (get_or ts (place_of s x) 0) t (h.table.at s x hs hx) v e

    leads-miss : (t : ℕ) → (t ≡ get_or ts (place_of s x) 0 → ⊥) → leads rules s x t ≡ false
    unfolding leads
    leads-miss t n = misses (rule_at rules s x) (get_or ts (place_of s x) 0) t (h.table.at s x hs hx) n

    leads-none : (t : ℕ) → 16 ≤ get_or ts (place_of s x) 0 → leads rules s x t ≡ false
    unfolding leads
    leads-none t v = nowhere (rule_at rules s x) t (rule-digits rules s x h.digits) (omega (arith, h.table.at s x hs hx))

    pub spread-hit : {l : List Bool} → Marks l (spreading x) → get_or ts (place_of s x) 0 < 16 → Marks (set l (get_or ts (place_of s x) 0) true) (spreading (x + 1))
    unfolding any
    spread-hit m v = marks-set (spreading (x + 1)) (get_or ts (place_of s x) 0) m v
        (λ t e. rw (add-one x, leads-hit t v e) (or-hit (g t) (any (λ y. leads rules s y t) x)))
        (λ t n. rw (add-one x, leads-miss t n))

    pub spread-miss : {l : List Bool} → Marks l (spreading x) → 16 ≤ get_or ts (place_of s x) 0 → Marks l (spreading (x + 1))
    unfolding any
    spread-miss m v = marks-same (spreading (x + 1)) m (λ t k. rw (add-one x, leads-none t v))

module _ (z : Size) (rules : List Row) (g : ℕ → Bool) where
  abbrev pub rounding : ℕ → ℕ → Bool
  rounding s t = g t || any (λ y. g y && any (λ x. leads rules y x t) z.inputs) s

  pub round-none : {l : List Bool} → Marks l g → Marks l (rounding 0)
  unfolding any
  round-none h = marks-same (rounding 0) h (λ t j. or-false (g t))

  module _ {ds ss l : List Bool} {f : ℕ → Bool} (d : Marks ds f) (m : Marks ss g) (s : ℕ) (hs : s < 16) where
    pub round-new : get_or ss s false ≡ true → Marks l (λ t. rounding s t || any (λ x. leads rules s x t) z.inputs) → Marks l (rounding (s + 1))
    unfolding any
    round-new v h = marks-same (rounding (s + 1)) h
        (λ t j. rw (add-one s, sym (m.at s hs) ∙ v) (or-late (g t) (any (λ x. leads rules s x t) z.inputs) _))

    pub round-known : Follows z rules f g → s < z.states → (get_or ss s false ≡ true → get_or ds s false ≡ true) → Marks l (rounding s) → Marks l (rounding (s + 1))
    unfolding any
    round-known q k v h = marks-same (rounding (s + 1)) h (λ t j. rw (add-one s) (or-known (g t) _ _ (λ e. led t (both (g s) _ e))))
      where
        led : (t : ℕ) → (g s ≡ true) × (any (λ x. leads rules s x t) z.inputs ≡ true) → g t ≡ true
        led t p = q.each s t k (sym (d.at s hs) ∙ v (m.at s hs ∙ p.0)) p.1

no-marks : Marks (replicate 16 false) (λ t. false)
no-marks = record { size = refl; at = λ t h. get_or-replicate 16 t false false h }

-- after j rounds: ss marks the states found, ds some whose rules lead only to such
pub record Rounds (z : Size) (sh : Sheet) (j : ℕ) (ds ss : List Bool) : Type 0 where
  pub before : ℕ → Bool
  pub done : Marks ds before
  pub seen : Marks ss (reached_within sh j)
  pub follows : Follows z sh.rules before (reached_within sh j)

pub rounds-start : (z : Size) (sh : Sheet) → Rounds z sh 0 (replicate 16 false) (set (replicate 16 false) 0 true)
unfolding reached_within
rounds-start z sh = record {
  before = λ t. false;
  done = no-marks;
  seen = marks-set (reached_within sh 0) 0 no-marks (omega arith) (λ t e. eq-eqb t 0 e) (λ t n. ne_eqb t 0 n);
  follows = record { each = λ s t k e l. never (cc) };
}

pub rounds-more : (z : Size) (sh : Sheet) (j : ℕ) {ds ss : List Bool} → z ≡ sh.size → Marks ds (reached_within sh j)
    → Marks ss (rounding z sh.rules (reached_within sh j) z.states) → Rounds z sh (j + 1) ds ss
unfolding reached_within
rounds-more z sh j e = rw e (λ d m. record {
  before = reached_within sh j;
  done = d;
  seen = marks-same (reached_within sh (j + 1)) m (λ t k. rw (add-one j));
  follows = record {
    each = λ s t k w l. rw (add-one j) (or_right (reached_within sh j t) _ (some-any _ sh.size.states s k (and_both (reached_within sh j s) _ w l)));
  };
})

and_swap : (a b : Bool) → a && b ≡ b && a
and_swap true true = refl
and_swap true false = refl
and_swap false true = refl
and_swap false false = refl

-- the first n marks
pub all-marks : {l : List Bool} {g : ℕ → Bool} (n : ℕ) → n ≤ 16 → Marks l g → list_all (λ b. b) (take n l) ≡ all g n
unfolding all
all-marks zero k h = refl
all-marks {l} {g} (suc n) k h =
    rw (take-suc l n false (omega (arith, h.size)))
    (and_push (list_all (λ b. b)) (λ b. b) refl (λ _ _. refl) (take n l) (get_or l n false)
    ∙ and_swap (list_all (λ b. b) (take n l)) (get_or l n false)
    ∙ (λ i. h.at n (omega arith) i && all-marks n (omega arith) h i))

open_more : (sh : Sheet) (s n r : ℕ) → n ≡ open_below sh s → r ≡ count (is_open sh s) sh.size.inputs → n + r ≡ open_below sh (s + 1)
unfolding open_below
open_more sh s n r e f = rw (add-one s, e, f)

-- what the pairs are looked up in
pub linked : {z : Size} {t : ℕ} {q : Bool} {ts ms : List ℕ} {sh : Sheet} (n : ℕ) → n ≡ cond q 1 (z.outputs * z.states) → Gathered z t q ts ms sh → Linked (ltb 1 n) ts ms sh
linked {z} {q = q} {sh = sh} n e h = record { unruled-is = ap (ltb 1) (e ∙ unruled-by sh z q h.size h.quiet_is); leads = h.leads; faulty = h.faulty }

-- where a mutant wakes, then the pairs
module _ (sh : Sheet) where
  key-none : (l : List ℕ) → next_key (λ s. s) (last l) ≡ 0 → l ≡ []
  unfolding last
  key-none [] e = refl
  key-none (t ∷ []) e = absurd (omega arith)
  key-none (t ∷ u ∷ l) e = absurd (let z : u ∷ l ≡ [] = key-none (u ∷ l) e in let n : suc (length l) ≡ 0 = ap length z in omega arith)

  pub waking-none : (t : ℕ) → StartsHold t sh.starts → t ≡ 0 → 0 ≡ waking_slots sh
  waking-none t h e = sym (no-choice sh (key-none sh.starts (sym h.key ∙ e)))

  pub waking-one : (t : ℕ) → StartsHold t sh.starts → (t ≡ 0 → ⊥) → 1 ≡ waking_slots sh
  unfolding last
  waking-one t h n = sym (a-choice sh (go sh.starts h.key))
    where
      go : (l : List ℕ) → t ≡ next_key (λ s. s) (last l) → 1 ≤ length l
      go [] e = absurd (n e)
      go (u ∷ l) e = omega arith

  pub slots-none : (n : ℕ) → n ≡ waking_slots sh → n ≡ waking_slots sh + open_below sh 0
  unfolding open_below
  slots-none n e = omega arith

  pub slots-more : (s n r : ℕ) → n ≡ waking_slots sh + open_below sh s → r ≡ count (is_open sh s) sh.size.inputs → n + r ≡ waking_slots sh + open_below sh (s + 1)
  slots-more s n r e f = omega (arith, open_more sh s (open_below sh s) r refl f)

  pub slots-all : (n : ℕ) → n ≡ waking_slots sh + open_below sh sh.size.states → n ≡ open_slots sh
  unfolding open_pairs open_slots
  slots-all n e = e

-- all states are found after j rounds, and after the last
pub reached-early : (sh : Sheet) (z : Size) (j : ℕ) → z ≡ sh.size → j ≤ z.states → all (reached_within sh j) z.states ≡ true → true ≡ all_reached sh
reached-early sh z j e = rw e (λ k a. sym (all-early sh j k a))

pub reached-late : (sh : Sheet) (z : Size) (j : ℕ) (r : Bool) → z ≡ sh.size → j ≡ z.states → r ≡ all (reached_within sh j) z.states → r ≡ all_reached sh
unfolding all_reached
reached-late sh z j r e k h = rw (k, e) at h

module _ (sh : Sheet) (s : List ℕ) (at : ℕ) where
  pub end_more : at + 1 < length s → Err (refusal_of 10 (at + 1)) ≡ end_of (finishing sh s at)
  unfolding finishing
  end_more h = rw (lt-ltb (at + 1) (length s) h)

  pub end-lost : length s ≤ at + 1 → all_reached sh ≡ false → Err (refusal_of 11 at) ≡ end_of (finishing sh s at)
  unfolding finishing first_broken
  end-lost h e = rw (le-ltb (at + 1) (length s) h, e)

  pub end-many : length s ≤ at + 1 → all_reached sh ≡ true → 32 < open_slots sh → Err (refusal_of 12 at) ≡ end_of (finishing sh s at)
  unfolding finishing first_broken
  end-many h e k = rw (le-ltb (at + 1) (length s) h, e, lt-ltb 32 (open_slots sh) k)

  pub end-good : length s ≤ at + 1 → all_reached sh ≡ true → open_slots sh ≤ 32 → Ok (open_slots sh) ≡ end_of (finishing sh s at)
  unfolding finishing first_broken
  end-good h e k = rw (le-ltb (at + 1) (length s) h, e, le-ltb 32 (open_slots sh) k)
