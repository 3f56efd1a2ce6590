-- 02's Point 10: the merged sheet is accepted, and a suite that is complete for it is complete for both.
use Rattle.std.specs.Prelude.{ℕ, zero, ◌≤◌, ◌<◌, ◌≡◌, Bool, true, false, ◌||◌, not, ◌⊎◌, ◌↔◌, eqb, ltb, length}
use Rattle.std.proofs.Math.Path.{refl}
use Rattle.std.proofs.Common.{sym, ◌∙◌, ap, ap₂, subst, inl, inr, ⊎_elim, eqb-true, eq-eqb, lt-ltb, le-ltb, ltb-false}
use Rattle.std.proofs.Math.Option.{Option, none, some}
use mathlib.Core.List.{List, [], ◌∷◌, Memᴰ}
use Rattle.lists.specs.Lists.{maybe, All}
use Rattle.lists.specs.laws.TestLaw.{never, both, or_left, or_right, not-true-false}
use Rattle.lists.specs.laws.AllLaw.{all_append}
use Rattle.sheet.specs.declared.Row.{Row}
use Rattle.sheet.specs.Sheet.{Sheet, row_of, rule_at, open_slots}
use Rattle.sheet.specs.Encode.{encode}
use Rattle.sheet.specs.Reading.{accepted, refused, reading}
use Rattle.sheet.specs.WellFormed.{RowIn, Mutates, StartIn, TestIn, WellFormed}
use Rattle.sheet.specs.laws.InjectiveLaw.{encode_injective}
use Rattle.sheet.specs.laws.AcceptedLaw.{well-formed}
use Rattle.sheet.specs.laws.AcceptsLaw.{accepts}
use Rattle.model.specs.Mutant.{IsMutant, step, initial, Conforming}
use Rattle.model.specs.Suite.{later_test, wrong_in, first_failed_in}
use Rattle.model.specs.Operations.{refuse_if}
use Rattle.model.specs.Verdict.{Complete}
use Rattle.model.proofs.laws.SuiteLaw.{right-none}
use Rattle.renaming.specs.Ordering.{union, only}
use Rattle.renaming.specs.Merging.{merged, bare, equal, limited, merge_on, SameMachine, FailsSome, Merges, ToldMerged, turned, merge_of, merging}
use Rattle.renaming.proofs.laws.SortLaw.{Keys, union-all, union-mem, mem-left, mem-right, union-up}
use Rattle.renaming.proofs.laws.PlaceLaw.{only-keys, only-rises, rises-only}
use Rattle.renaming.proofs.laws.RowsLaw.{row-keys}
use Rattle.renaming.proofs.laws.RenamedLaw.{renamed_rule}
use Rattle.renaming.proofs.laws.FollowLaw.{Follows, followed, fails-there}

-- members of a union are the members of both
union-members : {A : Type 0} (key : A → List ℕ) → Keys key → (xs ys : List A) (z : A) → Memᴰ z (union key xs ys) ↔ (Memᴰ z xs ⊎ Memᴰ z ys)
union-members key keys xs ys z = (union-mem key xs ys z, λ m. ⊎_elim (mem-left key keys xs ys z) (mem-right key xs ys z) m)

-- what is computed as equal is the same
pub equal-same : (xs ys : List ℕ) → equal xs ys ≡ true → xs ≡ ys
unfolding equal
equal-same [] [] e = refl
equal-same [] (y ∷ ys) e = never (cc)
equal-same (x ∷ xs) [] e = never (cc)
equal-same (x ∷ xs) (y ∷ ys) e =
    let (h, t) = both (eqb x y) (equal xs ys) e in
    ap₂ (λ (z : ℕ) (zs : List ℕ). z ∷ zs) (eqb-true x y h) (equal-same xs ys t)

-- the same bytes of the machine, the same machine
pub same-machine : (a b : Sheet) → encode (bare a) ≡ encode (bare b) → SameMachine a b
same-machine a b e =
    let same = encode_injective (bare a) (bare b) e in
    record { size = ap (λ sh. sh.size) same; quiet = ap (λ sh. sh.quiet) same; rules = ap (λ sh. sh.rules) same }

-- a mutant that does not pass fails some test
fails-some : (sh : Sheet) (c : List ℕ) (ts : List (List ℕ)) → (first_failed_in sh c ts ≡ none → ⊥) → FailsSome sh c ts
unfolding first_failed_in
fails-some sh c [] h = absurd (h refl)
fails-some sh c (t ∷ ts) h = go (wrong_in sh c t) refl (fails-some sh c ts) h
  where
    go : (w : Option ℕ) → wrong_in sh c t ≡ w → ((first_failed_in sh c ts ≡ none → ⊥) → FailsSome sh c ts) →
        (maybe w (later_test (first_failed_in sh c ts)) (λ i. some (record { test = zero; position = i })) ≡ none → ⊥) → FailsSome sh c (t ∷ ts)
    go none e ih k = let f = ih (λ n. k (ap later_test n)) in record { test = f.test; there = Memᴰ.tail f.there; wrong = f.wrong }
    go (some i) e ih k = record { test = t; there = Memᴰ.head refl; wrong = λ right. never (cc (right-none sh c t right)) }

module _ (a b : Sheet) (wa : WellFormed a) (wb : WellFormed b) (same : SameMachine a b) where
  -- within the limits the merged sheet is well-formed
  pub well-formed-merged : length (merged a b).faults ≤ 256 → length (merged a b).tests ≤ 256 → open_slots (merged a b) ≤ 32 → WellFormed (merged a b)
  well-formed-merged faults tests slots =
      record {
        size = wa.size;
        rules = wa.rules;
        rules-ascend = wa.rules-ascend;
        faults = union-all row_of (RowIn a.size) a.faults b.faults wa.faults (subst (λ z. All (RowIn z) b.faults) (sym same.size) wb.faults);
        faults-ascend = union-up row_of row-keys a.faults b.faults wb.faults-ascend;
        faults-mutate = union-all row_of (Mutates a.rules) a.faults b.faults wa.faults-mutate (subst (λ l. All (Mutates l) b.faults) (sym same.rules) wb.faults-mutate);
        few-faults = faults;
        starts = union-all only (StartIn a.size) a.starts b.starts wa.starts (subst (λ z. All (StartIn z) b.starts) (sym same.size) wb.starts);
        starts-ascend = only-rises (merged a b).starts (union-up only only-keys a.starts b.starts (rises-only b.starts wb.starts-ascend));
        few-tests = tests;
        tests = all_append (TestIn a.rules) a.tests b.tests wa.tests (subst (λ l. All (TestIn l) b.tests) (sym same.rules) wb.tests);
        reached = λ t l. let r = wa.reached t l in record { inputs = r.inputs; leads = r.leads };
        few-open = slots;
      }

-- with every name kept a rule is as it was
kept : (o : Option Row) → renamed_rule (λ s. s) o ≡ o
kept none = refl
kept (some r) = refl

-- m has the machine of sh, and every fault and START
pub record Holds (sh m : Sheet) : Type 0 where
  pub same : SameMachine sh m
  pub faults : (r : Row) → Memᴰ r sh.faults → Memᴰ r m.faults
  pub starts : (t : ℕ) → Memᴰ t sh.starts → Memᴰ t m.starts

module _ (sh m : Sheet) (wf : WellFormed sh) (holds : Holds sh m) where
  holds-follows : Follows (λ s. s) sh m
  holds-follows =
      record {
        size = sym holds.same.size;
        quiet = sym holds.same.quiet;
        renames = record { zeroth = refl; into = λ s l. l; apart = λ s t ls lt e. e };
        ruled = λ s x l. ap (λ rules. rule_at rules s x) (sym holds.same.rules) ∙ sym (kept (rule_at sh.rules s x));
        faulty = holds.faults;
        waking = holds.starts;
      }

  -- each mutant of sh has a mutant of m with the very same transitions that wakes in the same state
  pub same-mutant : (c : List ℕ) → IsMutant sh c →
      (d : List ℕ) × IsMutant m d × ((s x : ℕ) → s < sh.size.states → x < sh.size.inputs → step m d s x ≡ step sh c s x) × (initial m d ≡ initial sh c)
  same-mutant c is = let d = followed (λ s. s) sh m wf holds-follows c is in (d.mutant, d.is, d.steps, d.start)

  -- so a suite that is complete for m finds every nonconforming mutant of sh
  pub finds : Complete m → (c : List ℕ) → IsMutant sh c → (Conforming sh c → ⊥) → FailsSome sh c m.tests
  finds complete c is departs = fails-some sh c m.tests (fails-there (λ s. s) sh m wf holds-follows complete c is departs)

-- the tests of `merge_on`
pub same-equal : (xs : List ℕ) → equal xs xs ≡ true
unfolding equal
same-equal [] = refl
same-equal (x ∷ xs) = rw (eq-eqb x x refl) (same-equal xs)

-- equal machines pass, and only they do
pub same-passes : (a b : Sheet) → SameMachine a b → equal (encode (bare a)) (encode (bare b)) ≡ true
same-passes a b same =
    let e : bare a ≡ bare b = λ i. record { size = same.size i; quiet = same.quiet i; rules = same.rules i; faults = []; starts = []; tests = [] } in
    ap (λ sh. equal (encode (bare a)) (encode sh)) (sym e) ∙ same-equal (encode (bare a))

pub other-stops : (a b : Sheet) → (SameMachine a b → ⊥) → equal (encode (bare a)) (encode (bare b)) ≡ false
other-stops a b other = not-true-false (equal (encode (bare a)) (encode (bare b))) (λ e. other (same-machine a b (equal-same (encode (bare a)) (encode (bare b)) e)))

-- within the limits the merged sheet has 02's sentences
within-limits : (s t : List ℕ) (a b : Sheet) → reading s ≡ accepted a → reading t ≡ accepted b → SameMachine a b → length (merged a b).faults ≤ 256 → length (merged a b).tests ≤ 256 →
    open_slots (merged a b) ≤ 32 → length (encode (merged a b)) ≤ 16384 → Merges a b (merged a b)
within-limits s t a b ra rb same faults tests slots short =
    let wa = well-formed s a ra in
    let wb = well-formed t b rb in
    let here : SameMachine a (merged a b) = record { size = refl; quiet = refl; rules = refl } in
    let there : SameMachine b (merged a b) = record { size = sym same.size; quiet = sym same.quiet; rules = sym same.rules } in
    record {
      reads = accepts (merged a b) (well-formed-merged a b wa wb same faults tests slots) short;
      first = here;
      second = there;
      faults = union-members row_of row-keys a.faults b.faults;
      starts = union-members only only-keys a.starts b.starts;
      tests = refl;
      finds-first = finds a (merged a b) wa (record { same = here; faults = mem-left row_of row-keys a.faults b.faults; starts = mem-left only only-keys a.starts b.starts });
      finds-second = finds b (merged a b) wb (record { same = there; faults = mem-right row_of a.faults b.faults; starts = mem-right only a.starts b.starts });
    }

-- 02, Point 10: what becomes of two accepted sheets
pub merged-told : (s t : List ℕ) (a b : Sheet) (room : ℕ) → reading s ≡ accepted a → reading t ≡ accepted b → ToldMerged a b room (merge_on a b room)
unfolding merge_on limited
merged-told s t a b room ra rb =
    record {
      short = λ l. rw (lt-ltb room 16384 l) refl;
      other = λ l other. rw (le-ltb room 16384 l, other-stops a b other) refl;
      full = λ l same over. rw (le-ltb room 16384 l, same-passes a b same, either-over over) refl;
      open-pairs = λ l same f t over. rw (le-ltb room 16384 l, same-passes a b same, le-ltb 256 faults f, le-ltb 256 tests t, lt-ltb 32 (open_slots m) over) refl;
      long = λ l same f t o over. rw (le-ltb room 16384 l, same-passes a b same, le-ltb 256 faults f, le-ltb 256 tests t, le-ltb 32 (open_slots m) o, lt-ltb 16384 (length (encode m)) over) refl;
      joins = λ l same f t' o short. (
        m,
        rw (le-ltb room 16384 l, same-passes a b same, le-ltb 256 faults f, le-ltb 256 tests t', le-ltb 32 (open_slots m) o, le-ltb 16384 (length (encode m)) short) refl,
        within-limits s t a b ra rb same f t' o short,
      );
    }
  where
    m : Sheet
    m = merged a b

    faults : ℕ
    faults = length (merged a b).faults

    tests : ℕ
    tests = length (merged a b).tests

    either-over : (256 < faults) ⊎ (256 < tests) → ltb 256 faults || ltb 256 tests ≡ true
    either-over (inl l) = or_left (ltb 256 faults) (ltb 256 tests) (lt-ltb 256 faults l)
    either-over (inr l) = or_right (ltb 256 faults) (ltb 256 tests) (lt-ltb 256 tests l)

-- what is written has 02's sentences
pub merges : (s t : List ℕ) (a b m : Sheet) (room : ℕ) → reading s ≡ accepted a → reading t ≡ accepted b → merge_on a b room ≡ accepted m → Merges a b m
unfolding merge_on limited
merges s t a b m room ra rb = go (ltb room 16384) (equal (encode (bare a)) (encode (bare b))) refl (ltb 256 (length (merged a b).faults)) refl
    (ltb 256 (length (merged a b).tests)) refl (ltb 32 (open_slots (merged a b))) refl (ltb 16384 (length (encode (merged a b)))) refl
  where
    go : (short same : Bool) → equal (encode (bare a)) (encode (bare b)) ≡ same → (faults : Bool) → ltb 256 (length (merged a b).faults) ≡ faults →
        (tests : Bool) → ltb 256 (length (merged a b).tests) ≡ tests → (slots : Bool) → ltb 32 (open_slots (merged a b)) ≡ slots → (long : Bool) → ltb 16384 (length (encode (merged a b))) ≡ long →
        refuse_if short 16 0 (refuse_if (not same) 21 0 (refuse_if (faults || tests) 8 0 (refuse_if slots 12 0 (refuse_if long 1 0 (accepted (merged a b)))))) ≡ accepted m → Merges a b m
    go true same e1 faults e2 tests e3 slots e4 long e5 h = never (cc)
    go false false e1 faults e2 tests e3 slots e4 long e5 h = never (cc)
    go false true e1 true e2 tests e3 slots e4 long e5 h = never (cc)
    go false true e1 false e2 true e3 slots e4 long e5 h = never (cc)
    go false true e1 false e2 false e3 true e4 long e5 h = never (cc)
    go false true e1 false e2 false e3 false e4 true e5 h = never (cc)
    go false true e1 false e2 false e3 false e4 false e5 h =
        let is : merged a b ≡ m = cc in
        subst (Merges a b) is
        (within-limits s t a b ra rb (same-machine a b (equal-same (encode (bare a)) (encode (bare b)) e1)) (ltb-false 256 (length (merged a b).faults) e2)
        (ltb-false 256 (length (merged a b).tests) e3) (ltb-false 32 (open_slots (merged a b)) e4) (ltb-false 16384 (length (encode (merged a b))) e5))

-- ---- from the bytes: the first sheet is read first
module _ (s t : List ℕ) (room : ℕ) where
  pub first-refused : (number place : ℕ) → reading s ≡ refused number place → merging s t room ≡ turned 1 number place
  unfolding merging
  first-refused number place e = rw e refl

  pub second-refused : (a : Sheet) (number place : ℕ) → reading s ≡ accepted a → reading t ≡ refused number place → merging s t room ≡ turned 2 number place
  unfolding merging
  second-refused a number place e f = rw (e, f) refl

  pub merging-is : (a b : Sheet) → reading s ≡ accepted a → reading t ≡ accepted b → merging s t room ≡ merge_of (merge_on a b room)
  unfolding merging
  merging-is a b e f = rw (e, f) refl
