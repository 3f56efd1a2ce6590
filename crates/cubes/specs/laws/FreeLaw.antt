-- The facts of a block, as they are filled.
use Rattle.std.specs.Prelude.{◌+◌, ◌*◌, ◌<◌, ◌≤◌, ◌≡◌}
use Rattle.lists.specs.Proving.{arith, ℕ, sym, ◌∙◌, ap, subst, Bool, true, false, List, length, get_or, below_more, never}
use Rattle.cubes.specs.Sets.{Has, Grows, Put}
use Rattle.block.specs.Layout.{site_at, choices_of}
use Rattle.block.specs.Tabulated.{Wf, choice_of}
use Rattle.block.specs.Tabulated.{StepIs}
use Rattle.block.specs.declared.layout.Step.{Step}
use Rattle.block.specs.laws.ChoiceLaw.{choice-at, choice-low}
use Rattle.cubes.specs.Cube.{FreeOk}
use Rattle.cubes.specs.Facts.{ChoiceIn, PairIn, Entered, PairEntered, AllEntered}
use Rattle.cubes.specs.laws.SetLaw.{grows_none, grows-more}

choice-more : {m old new : List ℕ} {k c : ℕ} → Grows old new → ChoiceIn m old k c → ChoiceIn m new k c
choice-more g h = record { few = h.few; going = g.more _ _ h.going; sounding = g.more _ _ h.sounding }

-- ---- a choice
pub entered-not : {m facts : List ℕ} {k c : ℕ} → Entered m facts facts k c false
entered-not = record { grows = grows_none; has = λ e. never (cc) }

pub step-few : {m : List ℕ} {k i c : ℕ} {r : Step} → Wf m → k < 257 → i ≡ site_at m k → i < 32 → c < choices_of m i → StepIs m k c r → r.target < 16
step-few {m} {k} {i} {c} wf lk ei li lc is =
    let ok = choice-at m k i c (sym ei) li lc in
    omega (arith, is.target wf ok, choice-low k c wf lk ok, wf.few-states)

pub entered : {m old mid new : List ℕ} {k i c : ℕ} {r : Step} (at j : ℕ) → Wf m → k < 257 → i ≡ site_at m k → i < 32 → c < choices_of m i → StepIs m k c r → r.output < 16 → at ≡ i * 16 + r.output → j ≡ 512 + i
    → Put old mid at r.target → Put mid new j r.output → Entered m old new k c true
entered {m} {old} {mid} {new} {k} {i} {c} {r} at j wf lk ei li lc is lo ea ej pf po =
    let ok = choice-at m k i c (sym ei) li lc in
    let eo : r.output ≡ (choice_of m k c).output = is.output wf ok in
    let et : r.target ≡ (choice_of m k c).target = is.target wf ok in
    let e1 : at ≡ site_at m k * 16 + (choice_of m k c).output = ea ∙ ap (λ (y : ℕ). y * 16 + r.output) ei ∙ ap (λ (y : ℕ). site_at m k * 16 + y) eo in
    record {
      grows = grows-more pf.grows po.grows;
      has = λ e. record {
        few = rw (← eo) lo;
        going = po.grows.more _ _ (subst (λ (y : ℕ). Has (get_or mid y 0) (choice_of m k c).target) e1 (subst (λ (y : ℕ). Has (get_or mid at 0) y) et pf.here));
        sounding = subst (λ (y : ℕ). Has (get_or new y 0) (choice_of m k c).output) (ej ∙ ap (λ (y : ℕ). 512 + y) ei) (subst (λ (y : ℕ). Has (get_or new j 0) y) eo po.here);
      };
    }

-- ---- a pair
pub record PairTo (m old new : List ℕ) (k c : ℕ) : Type 0 where
  pub grows : Grows old new
  pub at : (d : ℕ) → d < c → ChoiceIn m new k d

pub pair-none : {m facts : List ℕ} {k : ℕ} → PairTo m facts facts k 0
pair-none = record { grows = grows_none; at = λ d l. absurd (omega arith) }

pub pair-more : {m old mid new : List ℕ} {k c : ℕ} (r : Bool) → PairTo m old mid k c → Entered m mid new k c r → r ≡ true → PairTo m old new k (c + 1)
pair-more {c = c} r p en e = record { grows = grows-more p.grows en.grows; at = below_more _ c (λ d l. choice-more en.grows (p.at d l)) (en.has e) }

pub pair-skip : {m facts : List ℕ} {k : ℕ} → site_at m k ≡ 255 → PairEntered m facts facts k true
pair-skip e = record { grows = grows_none; has = λ t. record { at = λ n. absurd (n e) } }

pub pair-not : {m old mid new : List ℕ} {k c : ℕ} (r : Bool) → PairTo m old mid k c → Entered m mid new k c r → PairEntered m old new k false
pair-not r p en = record { grows = grows-more p.grows en.grows; has = λ e. never (cc) }

pub pair-all : {m old new : List ℕ} {k i c : ℕ} → PairTo m old new k c → i ≡ site_at m k → choices_of m i ≤ c → PairEntered m old new k true
pair-all {m} {i = i} {c = c} p ei l = record { grows = p.grows; has = λ e. record { at = λ n d h. p.at d (omega (arith, h, subst (λ (y : ℕ). choices_of m y ≤ c) ei l)) } }

-- ---- all pairs
pub record AllTo (m facts : List ℕ) (k : ℕ) : Type 0 where
  pub long : length facts ≡ 1088
  pub at : (j : ℕ) → j < k → PairIn m facts j

pub all_none : {m facts : List ℕ} → length facts ≡ 1088 → AllTo m facts 0
all_none l = record { long = l; at = λ j l. absurd (omega arith) }

pub all_more : {m old new : List ℕ} {k : ℕ} (r : Bool) → AllTo m old k → PairEntered m old new k r → r ≡ true → AllTo m new (k + 1)
all_more {k = k} r a en e = record {
  long = en.grows.long ∙ a.long;
  at = below_more _ k (λ j l. record { at = λ n c lc. choice-more en.grows ((a.at j l).at n c lc) }) (en.has e);
}

pub all-not : {m old new : List ℕ} {k : ℕ} (r : Bool) → AllTo m old k → PairEntered m old new k r → AllEntered m new false
all-not r a en = record { long = en.grows.long ∙ a.long; has = λ e. never (cc) }

pub all-all : {m facts : List ℕ} {k : ℕ} → AllTo m facts k → 257 ≤ k → AllEntered m facts true
all-all a l = record {
  long = a.long;
  has = λ e. record {
    few = λ k c lk n lc. ((a.at k (omega arith)).at n c lc).few;
    going = λ k c lk n lc. ((a.at k (omega arith)).at n c lc).going;
    sounding = λ k c lk n lc. ((a.at k (omega arith)).at n c lc).sounding;
  };
}

-- what is done to the numbers from 544 on leaves the facts
pub free-kept : {m old new : List ℕ} → Wf m → ((j : ℕ) → j < 544 → get_or new j 0 ≡ get_or old j 0) → FreeOk m old → FreeOk m new
free-kept {m} {old} {new} wf same f = record {
  few = f.few;
  going = λ k c lk n lc. rw (same (site_at m k * 16 + (choice_of m k c).output) (omega (arith, wf.sites k lk n, f.few k c lk n lc))) (f.going k c lk n lc);
  sounding = λ k c lk n lc. rw (same (512 + site_at m k) (omega (arith, wf.sites k lk n))) (f.sounding k c lk n lc);
}
