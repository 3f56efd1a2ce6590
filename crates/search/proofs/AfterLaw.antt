-- The first wanted mutant after a given one: of those that have its first i choices, for smaller and smaller i.
use Rattle.std.specs.Prelude.{Option as Maybe, Some, None, IsSome}
use Rattle.std.specs.Prelude.{◌+◌, ◌-◌, ◌<◌, ◌≤◌, ◌≡◌, ◌∷◌}
use Rattle.lists.specs.Proving.{arith, ℕ, zero, suc, refl, sym, ◌∙◌, subst, inl, inr, by_cases, List, [], length, get_or, set, length-set, length-replicate, get_or-replicate, get_or-set_same, get_or-set_other, ℕ_discrete, below_more, never}
use Rattle.std.proofs.Common.{ext_get_or}
use Rattle.lists.specs.Lists.{Before}
use Rattle.sheet.specs.Sheet.{Sheet}
use Rattle.sheet.specs.laws.RowLaw.{before-irreflexive}
use Rattle.model.specs.Mutant.{slots, IsMutant}
use Rattle.model.specs.Log.{Observation}
use Rattle.model.proofs.laws.SuspectLaw.{slot-count}
use Rattle.model.proofs.laws.OperationLaw.{mutant-length, in-range-at}
use Rattle.block.specs.Layout.{slots_of}
use Rattle.block.specs.Logged.{observations}
use Rattle.block.specs.laws.TabledLaw.{get_d_default, slot-few}
use Rattle.cubes.specs.declared.goal.Goal.{Goal}
use Rattle.refutation.specs.Lent.{StoreOk, Entry}
use denote.Bor.{Bor}
use Rattle.search.specs.declared.settle.Beginning.{Beginning}
use Rattle.search.specs.declared.settle.Beginning.TheVariants.{After}
use Rattle.search.specs.Search.{Wanted, Begins, next, after, In, NoneOf, FirstOf, Finds, Searching, Settled, Leaving, LeavingAfter, unsettled}
use Rattle.search.proofs.SearchLaw.{before_at}

-- the same up to a place, and a larger number there: it stands after
before_of : (a b : List ℕ) (i : ℕ) → ((j : ℕ) → j < i → get_or a j 0 ≡ get_or b j 0) → i < length a → i < length b → get_or a i 0 < get_or b i 0 → Before a b
unfolding Before
before_of [] b i same la lb l = absurd (omega arith)
before_of (x ∷ a) [] i same la lb l = absurd (omega arith)
before_of (x ∷ a) (y ∷ b) zero same la lb l = inl l
before_of (x ∷ a) (y ∷ b) (suc i) same la lb l =
    inr (same 0 (omega arith), before_of a b i (λ j k. same (suc j) (omega arith)) (omega arith) (omega arith) l)

-- what stands between two that begin alike begins so too
between : (l b a : List ℕ) (i : ℕ) → Before l b → Before b a → Begins i a l → Begins i b l
between l b a zero h k be = record { at = λ j z. absurd (omega arith) }
between l b a (suc i) h k be =
    let less = between l b a i h k (record { at = λ j z. be.at j (omega arith) }) in
    let low = before_at l b i h (λ j z. sym (less.at j z)) in
    let high = before_at b a i k (λ j z. less.at j z ∙ sym (be.at j (omega arith))) in
    record { at = λ j z. by_cases (ℕ_discrete j i) (λ e. rw e (omega (arith, be.at i (omega arith)))) (λ d. less.at j (omega arith)) }

-- the choices before j are settled
pub record FilledTo (last p : List ℕ) (j : ℕ) : Type 0 where
  pub long : length p ≡ 32
  pub low : j ≤ length last
  pub at : (i : ℕ) → i < 32 → i < j → get_or p i 0 ≡ get_or last i 0
  pub rest : (i : ℕ) → i < 32 → j ≤ i → get_or p i 0 ≡ 256

pub filled_none : {last p : List ℕ} → p ≡ unsettled → FilledTo last p 0
filled_none e =
    rw e
    (record { long = length-replicate {A = ℕ} 32 256; low = omega arith; at = λ i h k. absurd (omega arith); rest = λ i h k. get_or-replicate {A = ℕ} 32 i 256 0 h })

pub filled_more : {last p : List ℕ} {j v : ℕ} → FilledTo last p j → j < 32 → j < length last → v ≡ get_or last j 0 → FilledTo last (set p j v) (j + 1)
filled_more {last} {p} {j} {v} f l k e =
    record {
      long = length-set p j v ∙ f.long;
      low = omega arith;
      at = λ i h m.
          by_cases (ℕ_discrete i j) (λ s. rw s (get_or-set_same p j v 0 (omega (arith, f.long)) ∙ e))
          (λ d. get_or-set_other p j i v 0 (λ s. omega arith) ∙ f.at i h (omega arith));
      rest = λ i h m. get_or-set_other p j i v 0 (λ s. omega arith) ∙ f.rest i h (omega arith);
    }

pub filled-all : {last p : List ℕ} {j : ℕ} → FilledTo last p j → length last ≤ j → Settled last p
filled-all f l = record { long = f.long; at = λ i h k. f.at i h (omega (arith, f.low)); rest = λ i h k. f.rest i h (omega (arith, f.low)) }

-- the choices of the mutant before i are settled in p, and no mutant that begins so and stands after it is wanted
pub record Left (goal : Goal) (sh : Sheet) (l : List Observation) (m last p : List ℕ) (i : ℕ) : Type 0 where
  pub searching : Searching sh m p i
  pub same : (j : ℕ) → j < i → get_or p j 0 ≡ get_or last j 0
  pub none : NoneOf goal sh l (after last i)

pub down : {goal : Goal} {sh : Sheet} {l : List Observation} {m last p : List ℕ} {i : ℕ} → Left goal sh l m last p i → 0 < i → Left goal sh l m last p ((i - 1) + 1)
down {goal} {sh} {l} {m} {last} {p} {i} h k = subst (λ (k : ℕ). Left goal sh l m last p k) (omega arith) h

-- a search begins after a mutant
pub leaving-after : {from : Beginning} {sh : Sheet} {m : List ℕ} {last : Bor (List ℕ)} → from ≡ After last → Leaving sh m from → LeavingAfter sh m last.now
leaving-after e le = record { tabled = le.tabled; is = rw e at le.is }

-- none of them is left
pub left-all : {goal : Goal} {sh : Sheet} {l : List Observation} {m last p : List ℕ} {i : ℕ} → Left goal sh l m last p i → i ≤ 0 → NoneOf goal sh l (after last 0)
left-all {goal} {sh} {l} {m} {last} {p} {i} h z = subst (λ (k : ℕ). NoneOf goal sh l (after last k)) (omega arith) h.none

module _ {sh : Sheet} {m last : List ℕ} (le : LeavingAfter sh m last) where
  long : length last ≡ length (slots sh)
  long = mutant-length sh last le.is

  pub few : length last ≤ 32
  few = omega (arith, long, slot-count sh, le.tabled.formed.few-open)

  -- all of them: it is the only one
  pub left-none : {goal : Goal} {l : List Observation} {p : List ℕ} → Settled last p → Left goal sh l m last p (length last)
  unfolding IsMutant
  left-none st =
      record {
        searching = record {
          tabled = le.tabled;
          prefix = record {
            long = st.long;
            few = omega (arith, few, long);
            within = omega (arith, long);
            low = λ j h. rw (st.at j (omega (arith, few)) h) (in-range-at (slots sh) last le.is j h);
            rest = st.rest;
          };
        };
        same = λ j h. st.at j (omega (arith, few)) h;
        none = record { at = λ b is be w. before-irreflexive last (rw (only b is be.0) at be.1) };
      }
    where
      only : (b : List ℕ) → IsMutant sh b → Begins (length last) b last → b ≡ last
      only b is be = ext_get_or 0 b last (mutant-length sh b is ∙ sym long) (λ i h. be.at i (omega (arith, mutant-length sh b is, long)))

  -- one fewer
  module _ {goal : Goal} {l : List Observation} {p : List ℕ} (i : ℕ) (h : Left goal sh l m last p (i + 1)) where
    pub within : (i < 32) × (i < slots_of m)
    within = let pre = h.searching.prefix in (omega (arith, pre.within, pre.few), omega (arith, pre.within, le.tabled.count))

    -- a choice is a byte
    pub choice-low : get_or p i 0 < 256
    choice-low =
        let pre = h.searching.prefix in
        let li : i < length (slots sh) = omega (arith, pre.within) in
        omega (arith, pre.low i (omega arith), rw (get_d_default (slots sh) i 1 0 li) at (slot-few sh le.tabled.formed i))

    pub left-unset : Searching sh m (set p i 256) i
    left-unset =
        let pre = h.searching.prefix in
        record {
          tabled = le.tabled;
          prefix = record {
            long = length-set p i 256 ∙ pre.long;
            few = pre.few;
            within = omega (arith, pre.within);
            low = λ j l. rw (get_or-set_other p i j 256 0 (λ s. omega arith)) (pre.low j (omega arith));
            rest = λ j l k. by_cases (ℕ_discrete j i) (λ e. rw e (get_or-set_same p i 256 0 (omega (arith, within.0, pre.long))))
                (λ d. get_or-set_other p i j 256 0 (λ s. omega arith) ∙ pre.rest j l (omega arith));
          };
        }

    same-unset : (j : ℕ) → j < i → get_or (set p i 256) j 0 ≡ get_or last j 0
    same-unset j l = get_or-set_other p i j 256 0 (λ s. omega arith) ∙ h.same j (omega arith)

    -- what begins as the mutant's first i choices and stands after it has a larger one next, or the same
    module _ {c : ℕ} (ec : c ≡ get_or p i 0) where
      split : (b : List ℕ) → IsMutant sh b → In (after last i) b → Wanted goal sh l b → In (next (set p i 256) i (c + 1)) b
      split b is be w =
          by_cases (ℕ_discrete (get_or b i 0) (get_or last i 0))
          (λ e. absurd (h.none.at b is (record { at = below_more _ i be.0.at e }, be.1) w))
          (λ d.
          let low = before_at last b i be.1 (λ j l. sym (be.0.at j l)) in
          (record { at = λ j l. be.0.at j l ∙ sym (same-unset j l) }, omega (arith, h.same i (omega arith), ec)))

      pub left-more : NoneOf goal sh l (next (set p i 256) i (c + 1)) → Left goal sh l m last (set p i 256) i
      left-more nf = record { searching = left-unset; same = same-unset; none = record { at = λ b is be w. nf.at b is (split b is be w) w } }

      -- what was found with a larger choice is the answer
      pub left-found : (r : Maybe (List ℕ)) → IsSome r → Finds goal sh l (next (set p i 256) i (c + 1)) r → Finds goal sh l (after last 0) r
      left-found None n a = never (cc)
      left-found (Some q) n a = record { long = a.long; first = first a.first }
        where
          first : {d : List ℕ} → FirstOf goal sh l (next (set p i 256) i (c + 1)) d → FirstOf goal sh l (after last 0) d
          first {d} f =
              record {
                is = f.is;
                among = (record { at = λ j l. absurd (omega arith) }, before_of last d i (λ j l. sym (begins.at j l)) inside (omega (arith, inside, long, mutant-length sh d f.is)) (omega (arith, f.among.1, h.same i (omega arith), ec)));
                wanted = f.wanted;
                first = λ b is be before w. f.first b is (split b is (between last b d i be.1 before begins, be.1) w) before w;
              }
            where
              begins : Begins i d last
              begins = record { at = λ j l. f.among.0.at j l ∙ same-unset j l }

              inside : i < length last
              inside = omega (arith, h.searching.prefix.within, long)

-- ---- what `search_after` has at each turn: of the mutants that have the first i choices none that stands after is wanted
pub record Going (goal : Goal) (block log last : List ℕ) (store₀ store : List Entry) (notes₀ notes p : List ℕ) (i : ℕ) : Type 0 where
  pub left : (sh : Sheet) → LeavingAfter sh block last → Left goal sh (observations log) block last p i
  pub low : i ≤ 32
  pub ok : StoreOk goal block log store
  pub same_store : length store ≡ length store₀
  pub same-notes : length notes ≡ length notes₀
