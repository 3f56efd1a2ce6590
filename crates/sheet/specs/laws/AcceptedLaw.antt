-- An accepted sheet is well formed.
use Rattle.std.specs.Prelude.{◌≡◌, refl, Bool, true, false, cond, ℕ, ◌+◌, ◌<◌, ◌≤◌, length, ltb}
use mathlib.Core.List.{List, [], ◌∷◌, ◌++◌}
use Rattle.std.proofs.Math.Option.{some}
use Rattle.std.proofs.Common.{arith, ltb-false}
use Rattle.std.proofs.Math.ListN.{get_or, length-append}
use Rattle.sheet.specs.declared.Row.{Row}
use Rattle.sheet.specs.declared.Size.{Size}
use Rattle.lists.specs.Lists.{last, All, Ascending, Before}
use Rattle.sheet.specs.Sheet.{Sheet, pair_of, row_of, after}
use Rattle.sheet.specs.Reading.{accepted, refused, from, Progress, row_at, size_at, last_test, add_press, advance, blank, reading}
use Rattle.sheet.specs.WellFormed.{SizeIn, RowIn, Mutates, StartIn, TestIn, WellFormed}
use Rattle.lists.specs.laws.TestLaw.{never}
use Rattle.lists.specs.laws.AllLaw.{all_snoc}
use Rattle.sheet.specs.laws.ReadingLaw.{Moves, by_size, by-quiet, by-rule, by-fault, by-start, by-test, by-press, accepting}
use Rattle.sheet.specs.laws.PhaseLaw.{Ordered, ordered-blank, ordered-on, press-length}
use Rattle.sheet.specs.laws.RowLaw.{before-trans, ascending-snoc}
use Rattle.sheet.specs.laws.ReachedLaw.{reached-each}
use Rattle.sheet.specs.laws.CommandLaw.{Follows, FaultRight, StartRight, size-right, rule-right, fault-right, start_right, test-right, press-right}

-- what is read so far is well formed, part by part
record RulesGood (z : Size) (rules : List Row) : Type 0 where
  inside : All (RowIn z) rules
  ascend : Ascending (λ q r. Before (pair_of q) (pair_of r)) rules

record FaultsGood (z : Size) (rules faults : List Row) : Type 0 where
  inside : All (RowIn z) faults
  ascend : Ascending (λ q r. Before (row_of q) (row_of r)) faults
  mutate : All (Mutates rules) faults
  few : length faults ≤ 256

record StartsGood (z : Size) (starts : List ℕ) : Type 0 where
  inside : All (StartIn z) starts
  ascend : Ascending ◌<◌ starts

record TestsGood (rules : List Row) (tests : List (List ℕ)) : Type 0 where
  few : length tests ≤ 256
  inside : All (TestIn rules) tests

record Good (p : Progress) : Type 0 where
  ordered : Ordered p
  size : 1 ≤ p.phase → SizeIn p.sheet.size
  rules : RulesGood p.sheet.size p.sheet.rules
  faults : FaultsGood p.sheet.size p.sheet.rules p.sheet.faults
  starts : StartsGood p.sheet.size p.sheet.starts
  tests : TestsGood p.sheet.rules p.sheet.tests

all-press : (P : List ℕ → Type 0) (l : List (List ℕ)) (x : ℕ) → All P l → P (last_test l ++ x ∷ []) → All P (add_press l x)
unfolding last_test last add_press
all-press P [] x a h = tt
all-press P (xs ∷ []) x a h = (h, tt)
all-press P (xs ∷ ys ∷ l) x a h = (a.0, all-press P (ys ∷ l) x a.1 h)

add-ascending : (key : Row → List ℕ) (l : List Row) (r : Row) → Ascending (λ q r. Before (key q) (key r)) l → ((q : Row) → last l ≡ some q → Before (key q) (key r))
    → Ascending (λ q r. Before (key q) (key r)) (l ++ r ∷ [])
add-ascending key = ascending-snoc (λ q r. Before (key q) (key r)) (λ x y z. before-trans (key x) (key y) (key z))

empty-test : (rules : List Row) → TestIn rules []
unfolding after
empty-test rules = record { reached = 0; defined = refl; short = omega arith }

-- no rows, no states and no tests are well formed, whatever the sizes and the rules
rules-none : {z : Size} {rules : List Row} → rules ≡ [] → RulesGood z rules
unfolding Ascending
rules-none e = rw e (record { inside = tt; ascend = tt })

faults-none : {z : Size} {rules faults : List Row} → faults ≡ [] → FaultsGood z rules faults
unfolding Ascending
faults-none e = rw e (record { inside = tt; ascend = tt; mutate = tt; few = omega arith })

starts_none : {z : Size} {starts : List ℕ} → starts ≡ [] → StartsGood z starts
unfolding Ascending
starts_none e = rw e (record { inside = tt; ascend = tt })

tests-none : {rules : List Row} {tests : List (List ℕ)} → tests ≡ [] → TestsGood rules tests
tests-none e = rw e (record { few = omega arith; inside = tt })

good-blank : Good blank
unfolding blank
good-blank =
    record {
      ordered = ordered-blank;
      size = λ k. absurd (omega arith);
      rules = rules-none refl;
      faults = faults-none refl;
      starts = starts_none refl;
      tests = tests-none refl;
    }

-- and so they are with one command more
module _ (sh : Sheet) where
  rules-on : (r : Row) → RulesGood sh.size sh.rules → Follows pair_of sh.size sh.rules r → RulesGood sh.size (sh.rules ++ r ∷ [])
  rules-on r g f = record { inside = all_snoc _ sh.rules r g.inside f.inside; ascend = add-ascending pair_of sh.rules r g.ascend f.later }

  faults-on : (r : Row) → FaultsGood sh.size sh.rules sh.faults → FaultRight sh r → FaultsGood sh.size sh.rules (sh.faults ++ r ∷ [])
  faults-on r g f =
      record {
        inside = all_snoc _ sh.faults r g.inside f.follows.inside;
        ascend = add-ascending row_of sh.faults r g.ascend f.follows.later;
        mutate = all_snoc _ sh.faults r g.mutate f.mutating;
        few = let k = f.few in simp length-append (omega arith);
      }

  starts-on : (t : ℕ) → StartsGood sh.size sh.starts → StartRight sh t → StartsGood sh.size (sh.starts ++ t ∷ [])
  starts-on t g f =
      record { inside = all_snoc _ sh.starts t g.inside f.inside; ascend = ascending-snoc ◌<◌ (λ x y z h k. omega arith) sh.starts t g.ascend f.later }

module _ {p : Progress} {s : List ℕ} {at : ℕ} (g : Good p) where
  good-on : {q : Progress} {e : ℕ} → Moves p s at q e → Good q
  unfolding advance
  good-on (by_size m) =
      record {
        ordered = ordered-on g.ordered (by_size m);
        size = λ k. size-right p.sheet (size_at s at) m.right;
        rules = rules-none (g.ordered.rules (omega arith));
        faults = faults-none (g.ordered.faults (omega arith));
        starts = starts_none (g.ordered.starts (omega arith));
        tests = g.tests;
      }
  good-on (by-quiet m) =
      record { ordered = ordered-on g.ordered (by-quiet m); size = λ k. g.size m.early; rules = g.rules; faults = g.faults; starts = g.starts; tests = g.tests }
  good-on (by-rule m) =
      record {
        ordered = ordered-on g.ordered (by-rule m);
        size = λ k. g.size m.early;
        rules = rules-on p.sheet (row_at s at) g.rules (rule-right p.sheet (row_at s at) m.right);
        faults = faults-none (g.ordered.faults m.late);
        starts = g.starts;
        tests = tests-none (g.ordered.tests (omega arith));
      }
  good-on (by-fault m) =
      record {
        ordered = ordered-on g.ordered (by-fault m);
        size = λ k. g.size m.early;
        rules = g.rules;
        faults = faults-on p.sheet (row_at s at) g.faults (fault-right p.sheet (row_at s at) m.right);
        starts = g.starts;
        tests = g.tests;
      }
  good-on (by-start m) =
      record {
        ordered = ordered-on g.ordered (by-start m);
        size = λ k. g.size m.early;
        rules = g.rules;
        faults = g.faults;
        starts = starts-on p.sheet (get_or s (at + 1) 0) g.starts (start_right p.sheet (get_or s (at + 1) 0) m.right);
        tests = g.tests;
      }
  good-on (by-test m) =
      let k = test-right p.sheet m.right in
      record {
        ordered = ordered-on g.ordered (by-test m);
        size = λ k. g.size m.early;
        rules = g.rules;
        faults = g.faults;
        starts = g.starts;
        tests = record { few = simp length-append (omega arith); inside = all_snoc _ p.sheet.tests [] g.tests.inside (empty-test p.sheet.rules) };
      }
  good-on (by-press m) =
      let x = get_or s (at + 1) 0 in
      record {
        ordered = ordered-on g.ordered (by-press m);
        size = λ k. g.size (omega arith);
        rules = g.rules;
        faults = g.faults;
        starts = g.starts;
        tests = record { few = rw press-length g.tests.few; inside = all-press _ p.sheet.tests x g.tests.inside (press-right p.sheet x m.right) };
      }

-- an accepted sheet is well formed
pub well-formed : (s : List ℕ) (sh : Sheet) → reading s ≡ accepted sh → WellFormed sh
well-formed s sh e =
    let a = accepting (λ p at. Good p) s (λ p q at next g m. good-on g m) sh good-blank e in
    let g = a.holds in
    let z = g.size a.ending.early in
    record {
      size = z;
      rules = g.rules.inside;
      rules-ascend = g.rules.ascend;
      faults = g.faults.inside;
      faults-ascend = g.faults.ascend;
      faults-mutate = g.faults.mutate;
      few-faults = g.faults.few;
      starts = g.starts.inside;
      starts-ascend = g.starts.ascend;
      few-tests = g.tests.few;
      tests = g.tests.inside;
      reached = reached-each sh a.reached;
      few-open = a.few-open;
    }

-- and has at most 16,384 bytes
pub short-enough : (s : List ℕ) (sh : Sheet) → reading s ≡ accepted sh → length s ≤ 16384
unfolding reading
short-enough s sh = one (ltb 16384 (length s)) refl
  where
    one : (t : Bool) → ltb 16384 (length s) ≡ t → cond t (refused 1 16384) (from (length s + 1) blank s 0) ≡ accepted sh → length s ≤ 16384
    one true k e = never (cc)
    one false k e = ltb-false 16384 (length s) k
