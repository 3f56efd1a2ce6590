-- A command breaks no rule exactly if what it adds is well formed.
use Rattle.std.specs.Prelude.{◌≡◌, Bool, true, ◌&&◌, eqb, leb, ltb}
use Rattle.std.proofs.Math.Path.{refl, ap}
use Rattle.std.proofs.Common.{sym, ◌∙◌}
use Rattle.std.proofs.Math.Bool.{false, not}
use Rattle.std.proofs.Math.Option.{Option, none, some}
use mathlib.Core.List.{List, [], ◌∷◌, ◌++◌}
use Prim.Native.Nat.{ℕ, ◌<◌}
use native.Mathlib.Omega.{arith}
use Rattle.std.proofs.Math.ListN.{length, length-append}
use borrow.Author.Tests.{ltb-true, lt-ltb, leb-true, leb-false, le-leb, lt-leb, eqb-true, eqb-false, eq-eqb, ne_eqb, not-false}
use Rattle.sheet.specs.declared.Row.{Row}
use Rattle.sheet.specs.declared.Size.{Size}
use Rattle.lists.specs.Lists.{maybe, is_none, last, All, Before}
use Rattle.sheet.specs.Sheet.{Sheet, pair_of, row_of, rule_at, after}
use Rattle.sheet.specs.Reading.{size, rule, fault, start, test, press, in_one_to16, size_in_range, in_range, is_other, last_test, rule_after, refusal}
use Rattle.sheet.specs.WellFormed.{OneTo16, SizeIn, RowIn, Mutates, StartIn, TestIn}
use Rattle.lists.specs.laws.TestLaw.{never, both, and_both}
use Rattle.sheet.specs.laws.BrokenLaw.{unbroken, unbroken-all}
use Rattle.sheet.specs.laws.RowLaw.{ascends-last, last-ascends, rises-last, last-rises, rule-at, rule-has, after-press}

one-to-16 : (n : ℕ) → in_one_to16 n ≡ true → OneTo16 n
one-to-16 n h = let t = both (leb 1 n) (leb n 16) h in record { some = leb-true 1 n t.0; few = leb-true n 16 t.1 }

from-one-to-16 : (n : ℕ) → OneTo16 n → in_one_to16 n ≡ true
from-one-to-16 n h = and_both (leb 1 n) (leb n 16) (le-leb 1 n h.some) (le-leb n 16 h.few)

-- what is computed is what is meant: sizes
pub size_in_lem : (z : Size) → size_in_range z ≡ true → SizeIn z
size_in_lem z h =
    let t = both (in_one_to16 z.states) (in_one_to16 z.inputs && in_one_to16 z.outputs) h in
    let u = both (in_one_to16 z.inputs) (in_one_to16 z.outputs) t.1 in
    record { states = one-to-16 z.states t.0; inputs = one-to-16 z.inputs u.0; outputs = one-to-16 z.outputs u.1 }

pub in_size : (z : Size) → SizeIn z → size_in_range z ≡ true
in_size z h = rw (from-one-to-16 z.states h.states, from-one-to-16 z.inputs h.inputs, from-one-to-16 z.outputs h.outputs)

-- rows in range
pub row_in : (z : Size) (r : Row) → in_range z r ≡ true → RowIn z r
row_in z r h =
    let t = both (ltb r.source z.states && ltb r.input z.inputs) (ltb r.output z.outputs && ltb r.target z.states) h in
    let u = both (ltb r.source z.states) (ltb r.input z.inputs) t.0 in
    let v = both (ltb r.output z.outputs) (ltb r.target z.states) t.1 in
    record { source = ltb-true _ _ u.0; input = ltb-true _ _ u.1; output = ltb-true _ _ v.0; target = ltb-true _ _ v.1 }

pub in_row : (z : Size) (r : Row) → RowIn z r → in_range z r ≡ true
in_row z r h =
    rw (lt-ltb r.source z.states h.source, lt-ltb r.input z.inputs h.input, lt-ltb r.output z.outputs h.output, lt-ltb r.target z.states h.target)

not-other : (r : Row) → is_other (some r) r ≡ false
not-other r = rw (eq-eqb r.output r.output refl, eq-eqb r.target r.target refl)

same_row : (r q : Row) → q.source ≡ r.source → q.input ≡ r.input → q.output ≡ r.output → q.target ≡ r.target → r ≡ q
same_row r q a b c d = rw (a, b, c, d)

module _ (rules : List Row) (r : Row) where
  -- a fault has a rule at its pair and is another
  pub mutates : is_other (rule_at rules r.source r.input) r ≡ true → Mutates rules r
  mutates = one (rule_at rules r.source r.input) refl
    where
      one : (o : Option Row) → rule_at rules r.source r.input ≡ o → is_other o r ≡ true → Mutates rules r
      one none e h = never (cc)
      one (some q) e h = record { rule = q; there = e; other = λ same. let own : is_other (some q) q ≡ true = rw same at h in never (cc (not-other q)) }

  pub mutates-other : Mutates rules r → is_other (rule_at rules r.source r.input) r ≡ true
  mutates-other m = rw m.there (one (eqb q.output r.output && eqb q.target r.target) refl)
    where
      q : Row
      q = m.rule

      one : (t : Bool) → eqb q.output r.output && eqb q.target r.target ≡ t → not t ≡ true
      one true e =
          let t = both (eqb q.output r.output) (eqb q.target r.target) e in
          let at = rule-at r.source r.input rules q m.there in
          let o : q.output ≡ r.output = eqb-true _ _ t.0 in
          let n : q.target ≡ r.target = eqb-true _ _ t.1 in
          absurd (m.other (same_row r q at.0 at.1 o n))
      one false e = refl

module _ (sh : Sheet) where
  -- SIZE
  pub size-right : (z : Size) → refusal sh (size z) ≡ 0 → SizeIn z
  unfolding refusal
  size-right z e = size_in_lem z (not-false _ (unbroken _ (omega arith, tt) e).0)

  pub right-size : (z : Size) → SizeIn z → refusal sh (size z) ≡ 0
  unfolding refusal
  right-size z h = unbroken-all _ (ap not (in_size z h), tt)

-- a row in range after the last one
pub record Follows (key : Row → List ℕ) (z : Size) (rows : List Row) (r : Row) : Type 0 where
  pub inside : RowIn z r
  pub later : (q : Row) → last rows ≡ some q → Before (key q) (key r)

-- a fault that may be added
pub record FaultRight (sh : Sheet) (r : Row) : Type 0 where
  pub follows : Follows row_of sh.size sh.faults r
  pub mutating : Mutates sh.rules r
  pub few : length sh.faults < 256

module _ (sh : Sheet) (r : Row) where
  -- RULE
  pub rule-right : refusal sh (rule r) ≡ 0 → Follows pair_of sh.size sh.rules r
  unfolding refusal
  rule-right e =
      let u = unbroken _ (omega arith, (omega arith, tt)) e in
      record { inside = row_in sh.size r (not-false _ u.0); later = ascends-last pair_of sh.rules r (not-false _ u.1.0) }

  pub right-rule : Follows pair_of sh.size sh.rules r → refusal sh (rule r) ≡ 0
  unfolding refusal
  right-rule h = unbroken-all _ (ap not (in_row sh.size r h.inside), (ap not (last-ascends pair_of sh.rules r h.later), tt))

  -- FAULT
  pub fault-right : refusal sh (fault r) ≡ 0 → FaultRight sh r
  unfolding refusal
  fault-right e =
      let u = unbroken _ (omega arith, (omega arith, (omega arith, (omega arith, tt)))) e in
      record {
        follows = record { inside = row_in sh.size r (not-false _ u.0); later = ascends-last row_of sh.faults r (not-false _ u.1.0) };
        mutating = mutates sh.rules r (not-false _ u.1.1.0);
        few = leb-false _ _ u.1.1.1.0;
      }

  pub right-fault : FaultRight sh r → refusal sh (fault r) ≡ 0
  unfolding refusal
  right-fault h = unbroken-all _ (
    ap not (in_row sh.size r h.follows.inside),
    (
      ap not (last-ascends row_of sh.faults r h.follows.later),
      (ap not (mutates-other sh.rules r h.mutating), (lt-leb 256 (length sh.faults) h.few, tt)),
    ),
  )

-- a START that may be added
pub record StartRight (sh : Sheet) (t : ℕ) : Type 0 where
  pub inside : StartIn sh.size t
  pub later : (q : ℕ) → last sh.starts ≡ some q → q < t

module _ (sh : Sheet) where
  -- START
  pub start_right : (t : ℕ) → refusal sh (start t) ≡ 0 → StartRight sh t
  unfolding refusal
  start_right t e =
      let u = unbroken _ (omega arith, (omega arith, (omega arith, tt))) e in
      let k = eqb-false t 0 u.1.1.0 in
      record { inside = record { some = omega arith; inside = leb-false _ _ u.0 }; later = rises-last sh.starts t (not-false _ u.1.0) }

  pub right-start : (t : ℕ) → StartRight sh t → refusal sh (start t) ≡ 0
  unfolding refusal
  right-start t h =
      let k = h.inside.some in
      unbroken-all _ (lt-leb sh.size.states t h.inside.inside, (ap not (last-rises sh.starts t h.later), (ne_eqb t 0 (λ q. omega arith), tt)))

  -- TEST
  pub test-right : refusal sh test ≡ 0 → length sh.tests < 256
  unfolding refusal
  test-right e = leb-false _ _ (unbroken _ (omega arith, tt) e).0

  pub right-test : length sh.tests < 256 → refusal sh test ≡ 0
  unfolding refusal
  right-test h = unbroken-all _ (lt-leb 256 (length sh.tests) h, tt)

  -- PRESS: the last test with the input more is one
  pub press-right : (x : ℕ) → refusal sh (press x) ≡ 0 → TestIn sh.rules (last_test sh.tests ++ x ∷ [])
  unfolding refusal
  press-right x e =
      let u = unbroken _ (omega arith, (omega arith, (omega arith, tt))) e in
      let k = leb-false 256 (length (last_test sh.tests)) u.1.0 in
      one k (rule_after sh.rules (last_test sh.tests) x) refl u.1.1.0
    where
      one : length (last_test sh.tests) < 256 → (o : Option Row) → rule_after sh.rules (last_test sh.tests) x ≡ o → is_none o ≡ false
          → TestIn sh.rules (last_test sh.tests ++ x ∷ [])
      one k none q h = never (cc)
      one k (some r) q h = record { reached = r.target; defined = after-press sh.rules (last_test sh.tests) x ∙ (rw q); short = simp length-append (omega arith) }

  pub right-press : (x : ℕ) → All (RowIn sh.size) sh.rules → TestIn sh.rules (last_test sh.tests ++ x ∷ []) → refusal sh (press x) ≡ 0
  unfolding refusal rule_after
  right-press x a h = go (after sh.rules 0 ys) refl (sym (after-press sh.rules ys x) ∙ h.defined)
    where
      ys : List ℕ
      ys = last_test sh.tests

      short : length ys < 256
      short = let k = simp length-append at h.short in omega arith

      at-state : (s : ℕ) (o : Option Row) → rule_at sh.rules s x ≡ o → maybe o none (λ r. some r.target) ≡ some h.reached
          → (leb sh.size.inputs x ≡ false) × (is_none o ≡ false)
      at-state s none q d = never (cc)
      at-state s (some r) q d =
          let i = rule-has s x (RowIn sh.size) sh.rules r a q in
          let at = rule-at s x sh.rules r q in
          (lt-leb sh.size.inputs x (omega arith), refl)

      go : (o : Option ℕ) → after sh.rules 0 ys ≡ o → maybe (maybe o none (λ s. rule_at sh.rules s x)) none (λ r. some r.target) ≡ some h.reached
          → refusal sh (press x) ≡ 0
      go none q d = never (cc)
      go (some s) q d = let t = at-state s (rule_at sh.rules s x) refl d in unbroken-all _ (t.0, (lt-leb 256 (length ys) short, (rw q t.1, tt)))
