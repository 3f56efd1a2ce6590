use Prim.Native.Nat.{ℕ, ◌+◌, ◌-◌}
use native.Mathlib.Omega.{arith}
use mathlib.Core.Path.{◌≡◌, refl}
use mathlib.Core.List.{List}
use Rattle.sheet.specs.Sheet.{Sheet}
use Rattle.station.specs.words.Parts.{TestsOf}
use Rattle.station.proofs.PartsLaw.{tests-none, start-some, end_fits, start-before, tests-in}
use Rattle.station.proofs.agree.tests_of.Goals as goal

first_of : {sh : Sheet} {s : List ℕ} {n : ℕ} → TestsOf sh s n → (n ≡ 0 → ⊥) → TestsOf sh s (0 + 1)
first_of h some = record { read = h.read; few = omega (arith, h.few) }

last_of : {sh : Sheet} {s : List ℕ} {n : ℕ} → TestsOf sh s n → (n ≡ 0 → ⊥) → TestsOf sh s (n - 1 + 1)
last_of h some = record { read = h.read; few = omega (arith, h.few) }

pub returns-then-tests-eq0 : goal.returns-then-tests-eq0
returns-then-tests-eq0 c = λ sh h. tests-none h c.if-tests-eq0.true

pub overflow_sub-start : goal.overflow_sub-start
overflow_sub-start c = let (sh, h) = c.requires in let some = c.if-tests-eq0.false in start-some h some (c.span_of-first.ensures sh (first_of h some)) (c.span_of-last.ensures sh (last_of h some))

pub overflow_add-result : goal.overflow_add-result
overflow_add-result c = let (sh, h) = c.requires in let some = c.if-tests-eq0.false in omega (arith, end_fits h some (c.span_of-first.ensures sh (first_of h some)) (c.span_of-last.ensures sh (last_of h some)))

pub overflow_sub-result : goal.overflow_sub-result
overflow_sub-result c = let (sh, h) = c.requires in let some = c.if-tests-eq0.false in start-before h some (c.span_of-first.ensures sh (first_of h some)) (c.span_of-last.ensures sh (last_of h some))

pub returns : goal.returns
returns c = λ sh h. let some = c.if-tests-eq0.false in tests-in h some (c.span_of-first.ensures sh (first_of h some)) (c.span_of-last.ensures sh (last_of h some)) refl refl
