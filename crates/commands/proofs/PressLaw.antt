-- TEST and PRESS: where the last test is.
use Prim.Native.Nat.{ℕ, ◌+◌, ◌<◌, ◌≤◌}
use mathlib.Core.Path.{◌≡◌, refl, ap, sym, ◌∙◌}
use mathlib.Core.Bool.{true, false}
use mathlib.Core.Option.{Option, none, some}
use mathlib.Core.List.{List, [], ◌∷◌, ◌++◌}
use native.Mathlib.Omega.{arith}
use lib.ListN.{length}
use borrow.Author.Tests.{le-leb, lt-leb}
use Rattle.sheet.specs.declared.Row.{Row}
use Rattle.sheet.specs.declared.Size.{Size}
use Rattle.commands.specs.declared.rules.Tests.{Tests}
use Rattle.lists.specs.Lists.{maybe, is_none, last}
use Rattle.sheet.specs.Sheet.{Sheet, rule_at}
use Rattle.sheet.specs.Reading.{press, last_test, add_press, rule_after, first_broken, refusal}
use Rattle.sheet.specs.laws.PhaseLaw.{press-length}
use Rattle.sheet.specs.laws.RowLaw.{last_snoc, after-snoc}
use Rattle.sheet.specs.words.Tabled.{Digits, rule_target}
use Rattle.commands.specs.words.Held.{TestsHold}
use Rattle.sheet.specs.laws.RowTableLaw.{If, length-snoc}

-- one input more
abbrev step_of : Option Row → Option ℕ
step_of found = maybe found none (λ r. some r.target)

pub last_test-snoc : (l : List (List ℕ)) (xs : List ℕ) → last_test (l ++ xs ∷ []) ≡ xs
unfolding last_test
last_test-snoc l xs = rw (last_snoc l xs)

pub last_test-add : (l : List (List ℕ)) (x : ℕ) → 0 < length l → last_test (add_press l x) ≡ last_test l ++ x ∷ []
unfolding last_test last add_press
last_test-add [] x h = absurd (omega arith)
last_test-add (y ∷ []) x h = refl
last_test-add (y ∷ w ∷ []) x h = refl
last_test-add (y ∷ w ∷ v ∷ l) x h = last_test-add (w ∷ v ∷ l) x (omega arith)

pub found_some : (f : Option Row) → rule_target f < 16 → is_none f ≡ false
found_some none h = absurd (omega arith)
found_some (some r) h = refl

pub found_none : (f : Option Row) → If Digits f → 16 ≤ rule_target f → is_none f ≡ true
found_none none d h = refl
found_none (some r) d h = absurd (omega (arith, d.target))

step-some : (f : Option Row) (v : ℕ) → v ≡ rule_target f → v < 16 → step_of f ≡ some v
step-some none v e h = absurd (omega arith)
step-some (some r) v e h = ap (λ (n : ℕ). some n) (sym e)

module _ (sh : Sheet) (z : Size) (t : Tests) (x v : ℕ) (ez : z ≡ sh.size) (h : TestsHold t sh.rules sh.tests) where
  here : rule_after sh.rules (last_test sh.tests) x ≡ rule_at sh.rules t.state x
  unfolding rule_after
  here = rw h.state

  input-in : x < z.inputs → x < sh.size.inputs
  input-in k = omega (arith, ap (λ (z : Size). z.inputs) ez)

  input-out : z.inputs ≤ x → sh.size.inputs ≤ x
  input-out k = omega (arith, ap (λ (z : Size). z.inputs) ez)

  pub press-taken : 0 < length sh.tests → x < z.inputs → t.inputs < 256 → v ≡ rule_target (rule_at sh.rules t.state x) → v < 16
      → (refusal sh (press x) ≡ 0) × TestsHold (record { count = t.count; inputs = t.inputs + 1; state = v }) sh.rules (add_press sh.tests x)
  unfolding refusal first_broken
  press-taken b k m e w =
      let l = sh.tests in (
        simp (lt-leb sh.size.inputs x (input-in k), lt-leb 256 (length (last_test l)) (omega (arith, h.inputs)), here, found_some (rule_at sh.rules t.state x) (omega arith)),
        record {
          count = h.count ∙ sym (press-length l x);
          most = h.most;
          inputs = rw (last_test-add l x b, length-snoc (last_test l) x) (ap (λ (n : ℕ). n + 1) h.inputs);
          most-inputs = omega arith;
          state = rw (last_test-add l x b, after-snoc sh.rules 0 (last_test l) x, h.state) (step-some (rule_at sh.rules t.state x) v e w);
          digit = w;
        },
      )

  pub press-none : x < z.inputs → t.inputs < 256 → v ≡ rule_target (rule_at sh.rules t.state x) → If Digits (rule_at sh.rules t.state x) → 16 ≤ v
      → refusal sh (press x) ≡ 9
  unfolding refusal first_broken
  press-none k m e d w =
      simp (lt-leb sh.size.inputs x (input-in k), lt-leb 256 (length (last_test sh.tests)) (omega (arith, h.inputs)), here, found_none (rule_at sh.rules t.state x) d (omega arith))

  pub press-many : x < z.inputs → 256 ≤ t.inputs → refusal sh (press x) ≡ 8
  unfolding refusal first_broken
  press-many k m = simp (lt-leb sh.size.inputs x (input-in k), le-leb 256 (length (last_test sh.tests)) (omega (arith, h.inputs)))

  pub press-outside : z.inputs ≤ x → refusal sh (press x) ≡ 5
  unfolding refusal first_broken
  press-outside k = simp (le-leb sh.size.inputs x (input-out k))
