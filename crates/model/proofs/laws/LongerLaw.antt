-- A longer suite: what passes it passes the shorter one, its first survivor is the shorter one's or a later one, and it is
-- complete if the shorter one is. With the sequence of a survivor as one test more the sheet is still well-formed.
use Rattle.std.specs.Prelude.{ℕ, zero, suc, ◌+◌, ◌*◌, ◌<◌, ◌≡◌, ◌⊎◌, length}
use Rattle.std.proofs.Common.{mul-le-mul, arith, ◌∙◌, ⊎_elim, length-append}
use Rattle.std.proofs.Math.Path.{refl, sym, ap}
use Rattle.std.proofs.Math.Option.{Option, none, some}
use mathlib.Core.List.Memᴰ
use mathlib.Core.List.{List, [], ◌∷◌, ◌++◌, append_assoc, Memᴰ}
use Rattle.lists.specs.Lists.{maybe, Before}
use Rattle.sheet.specs.declared.Row.{Row}
use Rattle.sheet.specs.Encode.{press_bytes, test_bytes, machine_bytes, body, encode}
use Rattle.sheet.specs.laws.PartLaw.{presses-length}
use Rattle.sheet.specs.Sheet.{Sheet, rule_at, after, is_open, open_below, open_pairs, choices_at, unruled_choices, open_slots, wakings, waking_choices, waking_slots}
use Rattle.sheet.specs.WellFormed.{TestIn, WellFormed}
use Rattle.lists.specs.laws.AllLaw.{all_snoc}
use Rattle.lists.specs.laws.TestLaw.{never}
use Rattle.model.specs.Machine.{Move, specified_from, DistinguishesFrom}
use Rattle.model.proofs.laws.SuiteLaw.{specified-uncons}
use Rattle.model.specs.Mutant.{move_of, rule, unruled, transitions, suspects, slots, IsMutant, acts, step, initial, against, Conforming, start_slot}
use Rattle.model.specs.Compare.{compare_pair}
use Rattle.model.specs.Suite.{Place, later_test, wrong_in, first_failed_in, first_failed_of, Passes, compare_of}
use Rattle.model.specs.Verdict.{ShortestOf, Survives, FirstSurvivor}
use Rattle.model.specs.Longer.{with_test, Among}
use Rattle.sheet.specs.Reading.{with_tests}

-- ---- the machine is the same
module _ (sh : Sheet) (ts : List (List ℕ)) where
  pub rule-longer : rule (with_tests sh ts) ≡ rule sh
  unfolding rule
  rule-longer = refl

  pub slots-longer : slots (with_tests sh ts) ≡ slots sh
  unfolding slots suspects is_open choices_at unruled_choices wakings waking_choices waking_slots
  slots-longer = refl

  pub step-longer : (b : List ℕ) → step (with_tests sh ts) b ≡ step sh b
  unfolding step acts suspects transitions unruled is_open choices_at unruled_choices wakings waking_choices waking_slots
  step-longer b = refl

  pub start-longer : (b : List ℕ) → initial (with_tests sh ts) b ≡ initial sh b
  unfolding initial start_slot wakings waking_choices
  start-longer b = refl

  pub against-longer : (b : List ℕ) → against (with_tests sh ts) b ≡ against sh b
  against-longer b = rw (rule-longer, step-longer b, start-longer b) refl

  pub mutant-longer : (b : List ℕ) → IsMutant (with_tests sh ts) b → IsMutant sh b
  unfolding IsMutant
  mutant-longer b is = rw slots-longer at is

  pub mutant-shorter : (b : List ℕ) → IsMutant sh b → IsMutant (with_tests sh ts) b
  unfolding IsMutant
  mutant-shorter b is = rw slots-longer is

  pub compare-longer : (b : List ℕ) → compare_of (with_tests sh ts) b ≡ compare_of sh b
  unfolding compare_of
  compare-longer b = ap compare_pair (against-longer b)

  pub wrong-longer : (b xs : List ℕ) → wrong_in (with_tests sh ts) b xs ≡ wrong_in sh b xs
  unfolding wrong_in
  wrong-longer b xs = rw (against-longer b, start-longer b) refl

  pub conforming-longer : (b : List ℕ) → Conforming (with_tests sh ts) b → Conforming sh b
  conforming-longer b c = rw (against-longer b, start-longer b) at c

  pub conforming-shorter : (b : List ℕ) → Conforming sh b → Conforming (with_tests sh ts) b
  conforming-shorter b c = rw (against-longer b, start-longer b) c

-- ---- passing
-- no output is wrong in any of the tests
none_each : (sh : Sheet) (b : List ℕ) (ts : List (List ℕ)) → first_failed_in sh b ts ≡ none → (t : List ℕ) → Memᴰ t ts → wrong_in sh b t ≡ none
unfolding first_failed_in
none_each sh b [] e t m = absurd (Memᴰ.not-nil m)
none_each sh b (u ∷ ts) e t m = go (wrong_in sh b u) refl (first_failed_in sh b ts) (none_each sh b ts) e
  where
    go : (w : Option ℕ) → wrong_in sh b u ≡ w → (o : Option Place) → (o ≡ none → (v : List ℕ) → Memᴰ v ts → wrong_in sh b v ≡ none) →
        maybe w (later_test o) (λ i. some (record { test = zero; position = i })) ≡ none → wrong_in sh b t ≡ none
    go none ew none ih n = ⊎_elim (λ et. ap (wrong_in sh b) et ∙ ew) (λ mt. ih refl t mt) (Memᴰ.cases_cons m)
    go none ew (some f) ih n = never (cc)
    go (some i) ew o ih n = never (cc)

each_none : (sh : Sheet) (b : List ℕ) (ts : List (List ℕ)) → ((t : List ℕ) → Memᴰ t ts → wrong_in sh b t ≡ none) → first_failed_in sh b ts ≡ none
unfolding first_failed_in
each_none sh b [] h = refl
each_none sh b (u ∷ ts) h = rw (h u (Memᴰ.head refl), each_none sh b ts (λ t m. h t (Memᴰ.tail m))) refl

module _ (sh : Sheet) (ts us : List (List ℕ)) (among : Among ts us) where
  -- what passes more tests passes fewer
  pub passes-fewer : (b : List ℕ) → Passes (with_tests sh us) b → Passes (with_tests sh ts) b
  unfolding first_failed_of
  passes-fewer b e =
      each_none (with_tests sh ts) b ts
      (λ t m. wrong-longer sh ts b t ∙ sym (wrong-longer sh us b t) ∙ none_each (with_tests sh us) b us e t (among t m))

  pub survives-fewer : (b : List ℕ) → Survives (with_tests sh us) b → Survives (with_tests sh ts) b
  survives-fewer b s =
      record {
        is = mutant-shorter sh ts b (mutant-longer sh us b s.is);
        passes = passes-fewer b s.passes;
        nonconforming = λ c. s.nonconforming (conforming-shorter sh us b (conforming-longer sh ts b c));
      }

  -- the first survivor of the longer suite is that of the shorter one or a later one
  pub later-survivor : (b c : List ℕ) → FirstSurvivor (with_tests sh ts) b → FirstSurvivor (with_tests sh us) c → (c ≡ b) ⊎ Before b c
  later-survivor b c first second = first.least c (survives-fewer c second.survives)

-- ---- one test more
-- its bytes stand before the END
test_bytes-more : (ts us : List (List ℕ)) → test_bytes (ts ++ us) ≡ test_bytes ts ++ test_bytes us
unfolding test_bytes
test_bytes-more [] us = refl
test_bytes-more (t ∷ ts) us = rw (test_bytes-more ts us, append_assoc) refl

machine-longer : (sh : Sheet) (ts : List (List ℕ)) → machine_bytes (with_tests sh ts) ≡ machine_bytes sh
unfolding machine_bytes
machine-longer sh ts = refl

pub body-longer : (sh : Sheet) (ts : List (List ℕ)) → body (with_tests sh (sh.tests ++ ts)) ≡ body sh ++ test_bytes ts
unfolding body
body-longer sh ts = rw (machine-longer sh (sh.tests ++ ts), test_bytes-more sh.tests ts) (sym (append_assoc (machine_bytes sh) (test_bytes sh.tests) (test_bytes ts)))

pub encode-longer : (sh : Sheet) (xs : List ℕ) → length (encode (with_test sh xs)) ≡ length (encode sh) + (1 + 2 * length xs)
unfolding encode test_bytes
encode-longer sh xs =
    let whole = length-append (body (with_test sh xs)) (6 ∷ []) in
    let before = length-append (body sh) (6 ∷ []) in
    let more = ap length (body-longer sh (xs ∷ [])) ∙ length-append (body sh) (4 ∷ press_bytes xs ++ []) in
    let presses = length-append (press_bytes xs) [] in
    omega (arith, presses-length xs)

-- a sequence with specified outputs leads along rules
pub specified-after : (sh : Sheet) (s : ℕ) (xs os : List ℕ) → specified_from (rule sh) s xs ≡ some os → (t : ℕ) × (after sh.rules s xs ≡ some t)
unfolding after rule
specified-after sh s [] os e = (s, refl)
specified-after sh s (x ∷ xs) os e =
    let f = specified-uncons (rule sh) s x xs os e in
    go (rule_at sh.rules s x) f.ruled (specified-after sh f.move.target xs f.rest f.specifies)
  where
    go : {r : Move} (o : Option Row) → maybe o none (λ q. some (move_of q)) ≡ some r → (t : ℕ) × (after sh.rules r.target xs ≡ some t) →
        (t : ℕ) × (maybe o none (λ q. after sh.rules q.target xs) ≡ some t)
    go none er w = never (cc)
    go {r} (some q) er w = let same : move_of q ≡ r = cc in (w.0, ap (λ (v : Move). after sh.rules v.target xs) same ∙ w.1)

-- a shortest distinguishing sequence is a test
pub shortest-test : (sh : Sheet) (b xs : List ℕ) → WellFormed sh → ShortestOf sh b xs → TestIn sh.rules xs
unfolding DistinguishesFrom
shortest-test sh b xs wf s =
    let d = s.distinguishes in
    let w = specified-after sh 0 xs d.0 d.1 in
    record { reached = w.0; defined = w.1; short = omega (arith, s.short, mul-le-mul wf.size.states.few wf.size.states.few) }

open-below : (sh : Sheet) (ts : List (List ℕ)) (n : ℕ) → open_below (with_tests sh ts) n ≡ open_below sh n
unfolding open_below is_open choices_at unruled_choices
open-below sh ts zero = refl
open-below sh ts (suc n) = rw (open-below sh ts n) refl

pub open-longer : (sh : Sheet) (ts : List (List ℕ)) → open_slots (with_tests sh ts) ≡ open_slots sh
unfolding open_slots open_pairs wakings waking_choices waking_slots
open-longer sh ts = rw (open-below sh ts sh.size.states) refl

pub well-formed-longer : (sh : Sheet) (xs : List ℕ) → WellFormed sh → length sh.tests < 256 → TestIn sh.rules xs → WellFormed (with_test sh xs)
well-formed-longer sh xs wf few is =
    record {
      size = wf.size;
      rules = wf.rules;
      rules-ascend = wf.rules-ascend;
      faults = wf.faults;
      faults-ascend = wf.faults-ascend;
      faults-mutate = wf.faults-mutate;
      few-faults = wf.few-faults;
      starts = wf.starts;
      starts-ascend = wf.starts-ascend;
      few-tests = omega (arith, length-append sh.tests (xs ∷ []));
      tests = all_snoc (TestIn sh.rules) sh.tests xs wf.tests is;
      reached = λ t l. let r = wf.reached t l in record { inputs = r.inputs; leads = r.leads };
      few-open = rw (open-longer sh (sh.tests ++ xs ∷ [])) wf.few-open;
    }
