-- The slots by a block's tables are those of the sheet and the mutant.
use Rattle.std.specs.Prelude.{ℕ, zero, suc, ◌/◌, ◌%◌, ◌<◌, ◌≡◌, ltb, get_or, take}
use native.Mathlib.Omega.{arith}
use Rattle.std.proofs.Math.Path.{refl, ap}
use Rattle.std.proofs.Common.{◌∙◌, lt-ltb}
use Rattle.std.proofs.Math.Bool.{cond}
use Rattle.std.proofs.Math.Option.{Option, none, some}
use mathlib.Core.List.{List, [], ◌∷◌}
use Rattle.lists.specs.Lists.{maybe, All}
use Rattle.sheet.specs.Sheet.{Sheet}
use Rattle.sheet.specs.WellFormed.{WellFormed}
use Rattle.model.specs.Mutant.{rule, site_of, acts, step, initial, start_slot, specified}
use Rattle.model.specs.Machine.{specified_from}
use Rattle.model.specs.Used.{mark, mark_from, mark_all, counted, used_on}
use Rattle.model.specs.Suite.{Place, tried_of}
use Rattle.lists.specs.laws.AllLaw.{all-imp, all_append, all_get_d}
use Rattle.model.proofs.laws.StaysLaw.{rule-in, start-below}
use Rattle.model.proofs.laws.SuiteLaw.{specified-uncons, Specified, test-specified}
use Rattle.model.proofs.laws.SuspectLaw.{slot-count, site-is, waking-slot}
use Rattle.block.specs.Layout.{pair}
use Rattle.block.specs.Tabled.{Tabled}
use Rattle.logs.specs.laws.WalkedLaw.{Tabulates}
use Rattle.usage.specs.Marks.{start_slot_of, slot_at, acts_in}

-- the inputs of a sequence are the sheet's
abbrev pub InputsOf : Sheet → List ℕ → Type 0
InputsOf sh xs = All (λ (x : ℕ). x < sh.size.inputs) xs

all_take : {A : Type 0} (P : A → Type 0) (n : ℕ) (xs : List A) → All P xs → All P (take n xs)
all_take P zero xs a = tt
all_take P (suc n) [] a = tt
all_take P (suc n) (x ∷ xs) a = (a.0, all_take P n xs a.1)

module _ (sh : Sheet) (wf : WellFormed sh) where
  specified-inputs : (xs os : List ℕ) (s : ℕ) → specified_from (rule sh) s xs ≡ some os → InputsOf sh xs
  specified-inputs [] os s e = tt
  specified-inputs (x ∷ xs) os s e =
      let f = specified-uncons (rule sh) s x xs os e in
      ((rule-in sh wf s x f.move f.ruled).input, specified-inputs xs f.rest f.move.target f.specifies)

  -- the inputs of tests are the sheet's
  tests-inputs : All (InputsOf sh) sh.tests
  unfolding specified
  tests-inputs = all-imp (InputsOf sh) (Specified sh) (λ t h. specified-inputs t h.expected 0 h.is) sh.tests (test-specified sh wf)

  tried-inputs : (o : Option Place) → All (InputsOf sh) (tried_of sh.tests o)
  tried-inputs none = tests-inputs
  tried-inputs (some f) =
      all_append (InputsOf sh) (take f.test sh.tests) (take (suc f.position) (get_or sh.tests f.test []) ∷ [])
      (all_take (InputsOf sh) f.test sh.tests tests-inputs) (
        all_take (λ (x : ℕ). x < sh.size.inputs) (suc f.position) (get_or sh.tests f.test [])
            (all_get_d (InputsOf sh) sh.tests f.test [] tests-inputs tt),
        tt,
      )

module _ {sh : Sheet} {m : List ℕ} (tb : Tabled sh m) where
  start-slot : start_slot_of m ≡ start_slot sh
  unfolding slot_at
  start-slot = rw tb.waking-site (go (start_slot sh) refl)
    where
      go : (o : Option ℕ) → start_slot sh ≡ o → cond (ltb (maybe o 255 (λ i. i)) 32) (some (maybe o 255 (λ i. i))) none ≡ o
      go none e = refl
      go (some i) e = rw (lt-ltb i 32 (omega (arith, (waking-slot sh i e).0))) refl

  slot_same : (s x : ℕ) → s < 16 → x < 16 → slot_at m (pair s x) ≡ site_of sh s x
  unfolding slot_at
  slot_same s x ls lx =
      let es : pair s x / 16 ≡ s = omega arith in
      let ex : pair s x % 16 ≡ x = omega arith in
      rw (tb.sites (pair s x) (omega arith), es, ex) (go (site_of sh s x) refl)
    where
      go : (o : Option ℕ) → site_of sh s x ≡ o → cond (ltb (maybe o 255 (λ i. i)) 32) (some (maybe o 255 (λ i. i))) none ≡ o
      go none e = refl
      go (some i) e = rw (lt-ltb i 32 (omega (arith, (site-is sh s x i e).0, slot-count sh, tb.formed.few-open))) refl

  module _ (b : List ℕ) {outputs targets : List ℕ} (t : Tabulates sh.size.states (step sh b) outputs targets) where
    -- along inputs of the sheet
    same_from : (xs : List ℕ) → InputsOf sh xs → (set s : ℕ) → s < sh.size.states → mark_from (acts_in m targets) set s xs ≡ mark_from (acts sh b) set s xs
    unfolding mark_from acts_in
    same_from [] a set s l = refl
    same_from (x ∷ xs) a set s l =
        let es : s % 16 ≡ s = omega (arith, t.few-states) in
        let lx : x < 16 = omega (arith, tb.formed.size.inputs.few, a.0) in
        let ex : x % 16 ≡ x = omega arith in
        rw (es, ex, slot_same s x (omega (arith, t.few-states)) lx, t.target s x l lx)
        (same_from xs a.1 (mark set (site_of sh s x)) (step sh b s x).target (t.stays s x l lx) ∙ one set s x)
      where
        one : (set s x : ℕ) → mark_from (acts sh b) (mark set (site_of sh s x)) (step sh b s x).target xs ≡ mark_from (acts sh b) (mark set (acts sh b s x).used) (acts sh b s x).move.target xs
        one set s x = unfold acts in unfold step in unfold site_of in refl

    same-all : (ts : List (List ℕ)) → All (InputsOf sh) ts → (start set : ℕ) → start < sh.size.states →
        mark_all (acts_in m targets) start set ts ≡ mark_all (acts sh b) start set ts
    unfolding mark_all
    same-all [] a start set l = refl
    same-all (xs ∷ ts) a start set l = rw (same_from xs a.0 set start l) (same-all ts a.1 start (mark_from (acts sh b) set start xs) l)

    module _ {start : ℕ} (es : start ≡ initial sh b) where
      low : start < sh.size.states
      low = omega (arith, es, start-below sh b tb.formed)

      -- the slots used in a run
      pub used-run : (xs : List ℕ) → InputsOf sh xs → counted (mark_from (acts_in m targets) (mark 0 (start_slot_of m)) start xs) ≡ used_on sh b (xs ∷ [])
      unfolding used_on mark_all
      used-run xs a = ap counted (same_from xs a (mark 0 (start_slot_of m)) start low ∙ rw (start-slot, es) refl)

      -- and on the tests up to a wrong output
      pub used-tried : (o : Option Place) → counted (mark_all (acts_in m targets) start (mark 0 (start_slot_of m)) (tried_of sh.tests o)) ≡ used_on sh b (tried_of sh.tests o)
      unfolding used_on
      used-tried o = ap counted (same-all (tried_of sh.tests o) (tried-inputs sh tb.formed o) start (mark 0 (start_slot_of m)) low ∙ rw (start-slot, es) refl)
