-- The first wanted mutant, choice by choice in dictionary order.
use Rattle.std.specs.Prelude.{Option as Maybe, Some, None, is_some, IsSome, Result as Answer, Ok, Err, IsOk, IsErr}
use Rattle.std.specs.Bool.{then_some}
use Rattle.std.specs.Prelude.{◌+◌, ◌<◌, ◌≤◌, ◌≡◌, ◌⊎◌, ◌∷◌}
use Rattle.lists.specs.Proving.{arith, ℕ, zero, suc, refl, sym, ◌∙◌, subst, Bool, true, false, cond, inl, inr, by_cases, Option, some, none, List, [], length, get_or, set, take, length-set, length-replicate, get_or-replicate, List·getD-eq-default, get_or-set_same, get_or-set_other, ℕ_discrete, dec_lt, below_more, never}
use Rattle.std.proofs.Common.{length-take-le, get_or-take, ext_get_or}
use Rattle.lists.specs.Lists.{Before}
use Rattle.sheet.specs.Sheet.{Sheet}
use Rattle.sheet.specs.laws.RowLaw.{before-irreflexive}
use Rattle.model.specs.Mutant.{slots, IsMutant}
use Rattle.model.specs.Suite.{compare_of}
use Rattle.model.specs.Log.{Observation}
use Rattle.model.proofs.laws.JudgeLaw.{some-nonconforming}
use Rattle.model.proofs.laws.SuspectLaw.{slot-count}
use Rattle.model.proofs.laws.OperationLaw.{mutant-length, in-range-at, in-range}
use Rattle.block.specs.Layout.{choices_of, slots_of}
use Rattle.block.specs.Logged.{observations}
use Rattle.block.specs.Tabled.{Tabled}
use Rattle.block.specs.laws.TabledLaw.{get_d_default, start-same, pair_same, ranged, gives_same, well-formed}
use Rattle.cubes.specs.Cube.{Sought, Meets as Asked, Extends, NoneIf}
use Rattle.cubes.specs.declared.goal.Goal.{Goal}
use Rattle.cubes.specs.declared.goal.Goal.TheVariants.{Any, Nonconforming}
use Rattle.refutation.specs.Refuting.{Ready}
use Rattle.refutation.specs.Lent.{StoreOk, Entry}
use Rattle.search.specs.Search.{FactsOk, Meets, Wanted, Begins, Part, next, NoneOf, FirstOf, Tried, Prefix, mutant_in, FirstIn, Finds, Searching, Decides, unsettled, every, Given}
use Rattle.search.specs.Shown.{Showing}

-- one table of facts is lent if it is ready, else none
pub few : (ready : Bool) {n : ℕ} → n ≡ cond ready 1 0 → n ≤ 1
few true e = omega arith
few false e = omega arith

pub lent : {m facts : List ℕ} (ready : Bool) {n : ℕ} → n ≡ cond ready 1 0 → (ready ≡ true → Ready m facts) → FactsOk m (take n (facts ∷ []))
lent {m = m} {facts = facts} true e h = rw e (record { at = go })
  where
    go : (i : ℕ) → i < 1 → Ready m (get_or (facts ∷ []) i [])
    go zero k = h refl
    go (suc i) k = absurd (omega arith)
lent false e h = rw e (record { at = λ i k. absurd (omega arith) })

-- where two lists are the same up to a place, the earlier one has no larger number there
pub before_at : (b a : List ℕ) (i : ℕ) → Before b a → ((j : ℕ) → j < i → get_or b j 0 ≡ get_or a j 0) → get_or b i 0 ≤ get_or a i 0
unfolding Before
before_at [] a i h same = absurd h
before_at (x ∷ b) [] i h same = absurd h
before_at (x ∷ b) (y ∷ a) zero (inl l) same = omega arith
before_at (x ∷ b) (y ∷ a) zero (inr (e, h)) same = omega arith
before_at (x ∷ b) (y ∷ a) (suc i) (inl l) same = absurd (omega (arith, same 0 (omega arith)))
before_at (x ∷ b) (y ∷ a) (suc i) (inr (e, h)) same = before_at b a i h (λ j k. same (suc j) (omega arith))

module _ {sh : Sheet} {p : List ℕ} where
  -- ---- all choices settled

  module _ (re : Prefix sh p (length (slots sh))) where
    inside-p : length (slots sh) ≤ length p
    inside-p = omega (arith, re.few, re.long)

    -- a mutant with all choices of p is p
    whole : (b : List ℕ) → IsMutant sh b → Begins (length (slots sh)) b p → b ≡ mutant_in sh p
    whole b is be =
        ext_get_or 0 b (mutant_in sh p) (mutant-length sh b is ∙ sym (length-take-le (length (slots sh)) p inside-p))
        (λ i h. let k : i < length (slots sh) = omega (arith, mutant-length sh b is) in be.at i k ∙ sym (get_or-take (length (slots sh)) p i 0 k))

    -- the choices of p are a mutant
    pub full-mutant : IsMutant sh (mutant_in sh p)
    unfolding IsMutant
    full-mutant =
        let long : length (mutant_in sh p) ≡ length (slots sh) = length-take-le (length (slots sh)) p inside-p in
        in-range (slots sh) (mutant_in sh p) long (λ j h. let k : j < length (slots sh) = omega (arith, long) in rw (get_or-take (length (slots sh)) p j 0 k) (re.low j k))

    -- it is not wanted: none that begins so is
    pub full-none : {goal : Goal} {l : List Observation} → (Wanted goal sh l (mutant_in sh p) → ⊥) → NoneOf goal sh l (next p (length (slots sh)) 0)
    full-none h = record { at = λ b is be w. h (rw (whole b is be.0) at w) }

    -- it is: it is the first that begins so
    pub full-first : {goal : Goal} {l : List Observation} → Wanted goal sh l (mutant_in sh p) → FirstIn goal sh l (next p (length (slots sh)) 0) p
    full-first w =
        record {
          long = re.long;
          first = record {
            is = full-mutant;
            among = (record { at = λ j k. get_or-take (length (slots sh)) p j 0 k }, omega arith);
            wanted = w;
            first = λ b is be before. absurd (before-irreflexive (mutant_in sh p) (rw (whole b is be.0) at before));
          };
        }

  -- ---- one choice more

  module _ {i : ℕ} (re : Prefix sh p i) (ln : i < length (slots sh)) where
    inside : i < length p
    inside = omega (arith, re.long, re.few)

    -- the next choice settled
    pub prefix-set : (c : ℕ) → c < get_or (slots sh) i 0 → Prefix sh (set p i c) (i + 1)
    prefix-set c lc =
        record {
          long = length-set p i c ∙ re.long;
          few = re.few;
          within = omega arith;
          low = below_more _ i (λ j h. rw (get_or-set_other p i j c 0 (λ s. omega arith)) (re.low j h)) (rw (get_or-set_same p i c 0 inside) lc);
          rest = λ j h k. rw (get_or-set_other p i j c 0 (λ s. omega arith)) (re.rest j h (omega arith));
        }

    -- b begins as p and has c at i: it begins as p with c at i
    begins-set : (b : List ℕ) (c : ℕ) → Begins i b p → get_or b i 0 ≡ c → Begins (i + 1) b (set p i c)
    begins-set b c be e =
        record {
          at = below_more _ i (λ j h. be.at j h ∙ sym (get_or-set_other p i j c 0 (λ s. omega arith))) (e ∙ sym (get_or-set_same p i c 0 inside));
        }

    begins-unset : (b : List ℕ) (c : ℕ) → Begins (i + 1) b (set p i c) → Begins i b p
    begins-unset b c be = record { at = λ j h. be.at j (omega arith) ∙ get_or-set_other p i j c 0 (λ s. omega arith) }

    module _ {goal : Goal} {l : List Observation} {from : ℕ} (c : ℕ) (tr : Tried goal sh l p i from c) where
      -- one more tried
      pub tried-more : NoneOf goal sh l (next (set p i c) (i + 1) 0) → Tried goal sh l p i from (c + 1)
      tried-more nf =
          record {
            at = λ b is be ge lt. by_cases (ℕ_discrete (get_or b i 0) c) (λ e. nf.at b is (begins-set b c be e, omega arith)) (λ d. tr.at b is be ge (omega arith));
          }

      -- all choices tried
      pub tried-all : get_or (slots sh) i 0 ≤ c → NoneOf goal sh l (next p i from)
      unfolding IsMutant
      tried-all lc =
          record {
            at = λ b is be. tr.at b is be.0 be.1 (omega (arith, in-range-at (slots sh) b is i (omega (arith, mutant-length sh b is))));
          }

      -- the first with the choice c, where no smaller choice leads to one
      pub found : (a : List ℕ) → from ≤ c → FirstOf goal sh l (next (set p i c) (i + 1) 0) a → FirstOf goal sh l (next p i from) a
      found a lf fi =
          record {
            is = fi.is;
            among = (begins-unset a c fi.among.0, omega (arith, at_i));
            wanted = fi.wanted;
            first = λ b is be before.
                by_cases (ℕ_discrete (get_or b i 0) c) (λ e. fi.first b is (begins-set b c be.0 e, omega arith) before)
                (λ ne. tr.at b is be.0 be.1 (below b be.0 before ne));
          }
        where
          at_i : get_or a i 0 ≡ c
          at_i = fi.among.0.at i (omega arith) ∙ get_or-set_same p i c 0 inside

          below : (b : List ℕ) → Begins i b p → Before b a → (get_or b i 0 ≡ c → ⊥) → get_or b i 0 < c
          below b be before ne =
              let le = before_at b a i before (λ j h. be.at j h ∙ sym ((begins-unset a c fi.among.0).at j h)) in
              by_cases (dec_lt (get_or b i 0) c) (λ h. h) (λ h. absurd (ne (omega (arith, at_i))))

-- no choice tried yet
pub tried-none : {goal : Goal} {sh : Sheet} {l : List Observation} {p : List ℕ} {i from : ℕ} → Tried goal sh l p i from from
tried-none = record { at = λ b is be g h. absurd (omega arith) }

-- nothing was found
pub none-found : {goal : Goal} {sh : Sheet} {l : List Observation} {part : Part} (r : Maybe (List ℕ)) → is_some r ≡ false → Finds goal sh l part r → NoneOf goal sh l part
none-found None e f = f
none-found (Some q) e f = never (cc)

-- what is not given up is found out
pub found_out : {A E : Type 0} (r : Answer A E) → (IsErr r → ⊥) → IsOk r
found_out (Ok a) h = refl
found_out (Err e) h = absurd (h refl)

-- ---- the whole search

-- nothing settled
pub start : {sh : Sheet} {m : List ℕ} → Tabled sh m → Searching sh m unsettled 0
start {sh} tb =
    record {
      tabled = tb;
      prefix = record {
        long = length-replicate {A = ℕ} 32 256;
        few = omega (arith, slot-count sh, tb.formed.few-open);
        within = omega arith;
        low = λ j h. absurd (omega arith);
        rest = λ j h k. get_or-replicate {A = ℕ} 32 j 256 0 h;
      };
    }

-- the mutant that was found
pub showing : {goal : Goal} {sh : Sheet} {l : List Observation} {m q : List ℕ} {part : Part} → Tabled sh m → FirstIn goal sh l part q → Showing sh m q
showing tb a = record { tabled = tb; is = a.first.is; long = a.long }

-- ---- the engine's answer

module _ {sh : Sheet} {m : List ℕ} (tb : Tabled sh m) (b : List ℕ) (is : IsMutant sh b) where
  -- what the goal asks by the sheet, it asks by the block
  asked : (goal : Goal) → Meets goal (compare_of sh b) → Asked goal m b
  asked Any h = tt
  asked Nonconforming h = go (compare_of sh b) refl h
    where
      go : (o : Option (List ℕ)) → compare_of sh b ≡ o → (o ≡ none → ⊥) → Asked Nonconforming m b
      go none e n = absurd (n refl)
      go (some xs) e n = λ c. some-nonconforming sh tb.formed b xs e (rw (pair_same tb b is, start-same tb b is) at c)

-- ---- the search, at what it works with

module _ {sh : Sheet} {m p : List ℕ} {i : ℕ} (w : Searching sh m p i) where
  -- a mutant that begins so has all the choices of p
  extends : (b : List ℕ) → IsMutant sh b → Begins i b p → Extends b p
  extends b is be j ne =
      let long = mutant-length sh b is in
      by_cases (dec_lt j i) (λ h. be.at j h)
      (λ h. by_cases (dec_lt j 32) (λ l. absurd (ne (w.prefix.rest j l (omega arith))))
      (λ l. past (omega (arith, w.prefix.few)) (omega (arith, w.prefix.long))))
    where
      past : length b ≤ j → length p ≤ j → get_or b j 0 ≡ get_or p j 0
      past h k = rw (List·getD-eq-default b 0 h, List·getD-eq-default p 0 k) refl

  sought : {goal : Goal} (log : List ℕ) (b : List ℕ) → IsMutant sh b → Wanted goal sh (observations log) b → Sought goal m log b
  unfolding Sought
  sought {goal} log b is h = (rw (gives_same w.tabled b is log) h.gives, asked w.tabled b is goal h.meets)

  -- where the engine refutes the prefix, no mutant that begins so is wanted
  pub refuted : {goal : Goal} (log : List ℕ) {r : Bool} → NoneIf goal m log p r → r ≡ true → NoneOf goal sh (observations log) (next p i 0)
  refuted log h e = record { at = λ b is be wa. h e b (ranged w.tabled b is) (extends b is be.0) (sought log b is wa) }

  -- n is how many slots there are
  module _ {n : ℕ} (en : n ≡ slots_of m) where
    count : n ≡ length (slots sh)
    count = en ∙ w.tabled.count

    -- all of them are settled
    module _ (ei : i ≡ n) where
      pub full : Searching sh m p (length (slots sh))
      full = subst (λ (k : ℕ). Searching sh m p k) (ei ∙ count) w

      pub full-answer : {goal : Goal} {l : List Observation} (r : Bool) → Decides (Wanted goal sh l (mutant_in sh p)) r → Finds goal sh l (next p i 0) (then_some r p)
      full-answer {goal} {l} r h = rw (ei ∙ count) (go r h)
        where
          go : (r : Bool) → Decides (Wanted goal sh l (mutant_in sh p)) r → Finds goal sh l (next p (length (slots sh)) 0) (then_some r p)
          go true h = full-first full.prefix (h.yes refl)
          go false h = full-none full.prefix (h.no refl)

    -- one is not
    pub next-slot : (i ≡ n → ⊥) → i < slots_of m
    next-slot ne = by_cases (dec_lt i (slots_of m)) (λ h. h) (λ h. absurd (ne (omega (arith, w.prefix.within, count, en))))

  module _ (li : i < slots_of m) where
    pub next_low : (i < 32) × (i < length (slots sh))
    next_low = (omega (arith, w.prefix.few, w.tabled.count), omega (arith, w.tabled.count))

    many : choices_of m i ≡ get_or (slots sh) i 0
    many = w.tabled.choices i next_low.0 ∙ get_d_default (slots sh) i 1 0 next_low.1

    module _ {k : ℕ} (ek : k ≡ choices_of m i) where
      pub few-choices : k ≤ 256
      few-choices = rw ek ((well-formed w.tabled).choices i next_low.0)

      pub searching-set : {c : ℕ} → c < k → Searching sh m (set p i c) (i + 1)
      searching-set lc = record { tabled = w.tabled; prefix = prefix-set w.prefix next_low.1 _ (rw (ek ∙ many) at lc) }

      module _ {goal : Goal} {l : List Observation} {from c : ℕ} (tr : Tried goal sh l p i from c) where
        pub all-tried : k ≤ c → NoneOf goal sh l (next p i from)
        all-tried h = tried-all w.prefix next_low.1 c tr (rw (ek ∙ many) at h)

        pub one-tried : NoneOf goal sh l (next (set p i c) (i + 1) 0) → Tried goal sh l p i from (c + 1)
        one-tried nf = tried-more w.prefix next_low.1 c tr nf

        -- what was found with the choice c is the answer
        pub one_found : from ≤ c → (r : Maybe (List ℕ)) → IsSome r → Finds goal sh l (next (set p i c) (i + 1) 0) r → Finds goal sh l (next p i from) r
        one_found lf None n a = never (cc)
        one_found lf (Some q) n a = record { long = a.long; first = found w.prefix next_low.1 c tr _ lf a.first }

-- ---- whether some mutant gives a log

pub given-some : {sh : Sheet} {l : List Observation} {part : Part} {q : List ℕ} → FirstIn Any sh l part q → Decides (Given sh l) true
given-some a = record { yes = λ e. record { mutant = _; is = a.first.is; gives = a.first.wanted.gives }; no = λ e. never (cc) }

pub given-none : {sh : Sheet} {l : List Observation} → NoneOf Any sh l every → Decides (Given sh l) false
given-none n =
    record {
      yes = λ e. never (cc);
      no = λ e h. n.at h.mutant h.is (record { at = λ j k. absurd (omega arith) }, omega arith) (record { gives = h.gives; meets = tt });
    }

pub given-by : {sh : Sheet} {l : List Observation} (r : Maybe (List ℕ)) {b : Bool} → b ≡ is_some r → Finds Any sh l every r → Decides (Given sh l) b
given-by None e f = rw e (given-none f)
given-by (Some q) e f = rw e (given-some f)

-- ---- what `search_from` has before each choice c: those from `from` on and below c lead to no wanted mutant
pub record Trying (goal : Goal) (block log p : List ℕ) (i from k : ℕ) (store₀ store : List Entry) (notes₀ notes : List ℕ) (c : ℕ) : Type 0 where
  pub tried : (sh : Sheet) → Searching sh block p i → Tried goal sh (observations log) p i from c
  pub low : from ≤ c
  pub ok : StoreOk goal block log store
  pub same_store : length store ≡ length store₀
  pub same-notes : length notes ≡ length notes₀
