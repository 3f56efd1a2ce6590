-- Marking the slots of tests: what holds between two inputs, and between two tests.
use Prim.Native.Nat.{ℕ, zero, suc, ◌+◌, ◌-◌, ◌*◌, ◌%◌, ◌≤◌, ◌<◌}
use native.Mathlib.Omega.{arith}
use mathlib.Core.Path.{◌≡◌, refl, sym, ◌∙◌, ap, ap₂}
use mathlib.Core.Option.{some}
use mathlib.Core.List.{List, [], ◌∷◌}
use lib.ListN.{length, get_or, take}
use Rattle.model.specs.Used.{mark, mark_from, mark_all}
use Rattle.model.specs.Suite.{tried_of}
use Rattle.model.proofs.laws.UsedLaw.{mark-append}
use Rattle.block.specs.Layout.{pair}
use Rattle.logs.specs.Tests.{inputs_at, tests_from, tests_at}
use Rattle.logs.specs.laws.TestsLaw.{inputs-more, tests-more}
use Rattle.usage.specs.Marks.{slot_at, acts_in}
use Rattle.usage.specs.Tried.{Inside}

-- the inputs from `at` on are to be marked, from the state s
pub record Marking (m targets sheet : List ℕ) (whole used s at left : ℕ) : Type 0 where
  pub inside : at + 2 * left ≤ length sheet
  pub is : mark_from (acts_in m targets) used s (inputs_at sheet at left) ≡ whole

module _ {m targets sheet : List ℕ} {whole used s at left : ℕ} (h : Marking m targets sheet whole used s at left) where
  pub marking-more : {k next on rest : ℕ} → 0 < left → k ≡ pair (s % 16) (get_or sheet (at + 1) 0 % 16) → next ≡ mark used (slot_at m k) → on ≡ at + 2 → rest ≡ left - 1 →
      Marking m targets sheet whole next (get_or targets k 0) on rest
  unfolding mark_from acts_in
  marking-more l ek en eo er = rw (eo, er)
      record {
        inside = omega (arith, h.inside);
        is = rw (en, ek) (sym (ap (mark_from (acts_in m targets) used s) (inputs-more sheet at left l)) ∙ h.is);
      }

  pub marking-end : left ≤ 0 → used ≡ whole
  unfolding mark_from inputs_at
  marking-end l = let e : left ≡ 0 = omega arith in rw e at h.is

-- the tests from t on are to be marked
pub record MarkingTests (m targets sheet starts lengths : List ℕ) (initial whole used n t : ℕ) : Type 0 where
  pub is : mark_all (acts_in m targets) initial used (tests_from sheet starts lengths t (n - t)) ≡ whole

pub tests-start : {m targets sheet starts lengths : List ℕ} {initial set used n : ℕ} → used ≡ set →
    MarkingTests m targets sheet starts lengths initial (mark_all (acts_in m targets) initial set (tests_at sheet starts lengths n)) used n 0
tests-start {n = n} eu = record { is = let e : n - 0 ≡ n = omega arith in rw (eu, e) refl }

module _ {m targets sheet starts lengths : List ℕ} {initial whole used n t : ℕ} (h : MarkingTests m targets sheet starts lengths initial whole used n t) where
  pub tests-next : {at inputs next : ℕ} → t < n → at ≡ get_or starts t 0 → inputs ≡ get_or lengths t 0 →
      next ≡ mark_from (acts_in m targets) used initial (inputs_at sheet at inputs) → MarkingTests m targets sheet starts lengths initial whole next n (t + 1)
  unfolding mark_all
  tests-next l ea ei en = record { is = rw (en, ea, ei) (sym (ap (mark_all (acts_in m targets) initial used) (tests-more sheet starts lengths t n l)) ∙ h.is) }

  pub tests-end : n ≤ t → used ≡ whole
  unfolding mark_all tests_from
  tests-end l = let e : n - t ≡ 0 = omega arith in rw e at h.is

-- ---- the tests up to a wrong output

pub inside-before : {sheet starts lengths : List ℕ} {n t : ℕ} → Inside sheet starts lengths n → t ≤ n → Inside sheet starts lengths t
inside-before h l = record { few = omega (arith, h.few); each = λ i li. h.each i (omega arith) }

inputs-take : (sheet : List ℕ) (at i n : ℕ) → i ≤ n → take i (inputs_at sheet at n) ≡ inputs_at sheet at i
unfolding inputs_at
inputs-take sheet at zero n l = refl
inputs-take sheet at (suc i) zero l = absurd (omega arith)
inputs-take sheet at (suc i) (suc n) l = ap (λ (xs : List ℕ). get_or sheet (at + 1) 0 ∷ xs) (inputs-take sheet (at + 2) i n (omega arith))

module _ (sheet starts lengths : List ℕ) where
  tests-take : (t i n : ℕ) → i ≤ n → take i (tests_from sheet starts lengths t n) ≡ tests_from sheet starts lengths t i
  unfolding tests_from
  tests-take t zero n l = refl
  tests-take t (suc i) zero l = absurd (omega arith)
  tests-take t (suc i) (suc n) l =
      ap (λ (ts : List (List ℕ)). inputs_at sheet (get_or starts t 0) (get_or lengths t 0) ∷ ts) (tests-take (t + 1) i n (omega arith))

  test_at : (t i n : ℕ) → i < n → get_or (tests_from sheet starts lengths t n) i [] ≡ inputs_at sheet (get_or starts (t + i) 0) (get_or lengths (t + i) 0)
  unfolding tests_from
  test_at t i zero l = absurd (omega arith)
  test_at t zero (suc n) l = let e : t + 0 ≡ t = omega arith in rw e refl
  test_at t (suc i) (suc n) l = let e : t + 1 + i ≡ t + suc i = omega arith in rw e at (test_at (t + 1) i n (omega arith))

  -- the tests before the failed one, then its inputs up to the wrong output
  pub tried-marked : (m targets : List ℕ) (initial set : ℕ) {n test position before at r : ℕ} → test < n → position < get_or lengths test 0 →
      before ≡ mark_all (acts_in m targets) initial set (tests_at sheet starts lengths test) → at ≡ get_or starts test 0 →
      r ≡ mark_from (acts_in m targets) before initial (inputs_at sheet at (position + 1)) →
      r ≡ mark_all (acts_in m targets) initial set (tried_of (tests_at sheet starts lengths n) (some (record { test = test; position = position })))
  unfolding mark_all
  tried-marked m targets initial set {n} {test} {position} lt lp eb ea er =
      er
      ∙ ap₂ (λ (u : ℕ) (xs : List ℕ). mark_from (acts_in m targets) u initial xs)
      (eb ∙ ap (mark_all (acts_in m targets) initial set) (sym (tests-take 0 test n (omega arith))))
      (rw (ea) (sym (ap (take (suc position)) (test_at 0 test n lt) ∙ rw (z, s) (inputs-take sheet (get_or starts test 0) (position + 1) (get_or lengths test 0) (omega arith)))))
      ∙ sym (mark-append (acts_in m targets) initial (take test (tests_at sheet starts lengths n)) (take (suc position) (get_or (tests_at sheet starts lengths n) test []) ∷ []) set)
    where
      z : 0 + test ≡ test
      z = omega arith

      s : suc position ≡ position + 1
      s = omega arith
