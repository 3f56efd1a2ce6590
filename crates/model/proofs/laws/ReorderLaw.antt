-- 02's Point 14: suites in another order, and longer ones. These hold of every sheet, with START and QUIET as they come.
use Rattle.std.specs.Prelude.{ℕ, suc, ◌+◌, ◌*◌, ◌≡◌, ◌⊎◌, Bool, true, false, ltb}
use native.Mathlib.Omega.{arith}
use Rattle.std.proofs.Math.Path.{refl, ap}
use Rattle.std.proofs.Common.{sym, ◌∙◌, subst, ⊎_elim}
use Rattle.std.proofs.Math.Option.{Option, none, some}
use mathlib.Core.List.Memᴰ
use mathlib.Core.List.Permᴰ
use mathlib.Core.List.{List, [], ◌∷◌, ◌++◌, Memᴰ, Permᴰ}
use Rattle.std.proofs.Math.ListN.{length, length-append}
use Rattle.lists.specs.Lists.{maybe, All, Before}
use Rattle.lists.specs.laws.TestLaw.{never}
use Rattle.sheet.specs.Sheet.{Sheet}
use Rattle.sheet.specs.Encode.{press_bytes, test_bytes, machine_bytes, body, encode}
use Rattle.sheet.specs.Reading.{Result, accepted, reading, with_tests}
use Rattle.sheet.specs.WellFormed.{TestIn, WellFormed}
use Rattle.sheet.specs.laws.AcceptedLaw.{well-formed, short-enough}
use Rattle.sheet.specs.laws.AcceptsLaw.{accepts}
use Rattle.sheet.specs.laws.EncodedLaw.{encoded}
use Rattle.model.specs.Mutant.{mutants, slots, IsMutant}
use Rattle.model.specs.Suite.{Place, Judgement, first_failed_of, compare_of, complete, survivor, or_else, survivor_among, judge_of}
use Rattle.model.specs.Operations.{refuse_if, judge_on, judging}
use Rattle.model.specs.Longer.{Among}
use Rattle.model.specs.Relisted.{Relisted, NoEarlier, Advances}
use Rattle.model.proofs.laws.JudgeLaw.{judge-none, judged-none, judged-first}
use Rattle.model.proofs.laws.LongerLaw.{slots-longer, mutant-longer, mutant-shorter, compare-longer, passes-fewer, open-longer}

-- ---- reorderings: the library's permutations
-- a reordering has every test
mem-reordered : {t : List ℕ} {ts us : List (List ℕ)} → Permᴰ ts us → Memᴰ t ts → Memᴰ t us
mem-reordered Permᴰ.nil m = m
mem-reordered (Permᴰ.cons e p) m = ⊎_elim (λ et. Memᴰ.head (et ∙ e)) (λ mt. Memᴰ.tail (mem-reordered p mt)) (Memᴰ.cases_cons m)
mem-reordered (Permᴰ.swap e f) m =
    ⊎_elim (λ et. Memᴰ.tail (Memᴰ.head (et ∙ e)))
    (λ mt. ⊎_elim (λ et. Memᴰ.head (et ∙ f)) (λ mu. Memᴰ.tail (Memᴰ.tail mu)) (Memᴰ.cases_cons mt))
    (Memᴰ.cases_cons m)
mem-reordered (Permᴰ.trans p q) m = mem-reordered q (mem-reordered p m)

pub reordered-among : {ts us : List (List ℕ)} → Permᴰ ts us → Among ts us
reordered-among p t m = mem-reordered p m

-- tests added anywhere, none removed
pub added-among : (ts added us : List (List ℕ)) → Permᴰ (ts ++ added) us → Among ts us
added-among ts added us p t m = mem-reordered p (Memᴰ.append_left added m)

-- ---- the judgement
module _ (sh : Sheet) (ts us : List (List ℕ)) where
  mutants-same : mutants (with_tests sh ts) ≡ mutants (with_tests sh us)
  unfolding mutants
  mutants-same = rw (slots-longer sh ts, slots-longer sh us) refl

  compare_same : (b : List ℕ) → compare_of (with_tests sh ts) b ≡ compare_of (with_tests sh us) b
  compare_same b = compare-longer sh ts b ∙ sym (compare-longer sh us b)

  mutant-same : (b : List ℕ) → IsMutant (with_tests sh us) b → IsMutant (with_tests sh ts) b
  mutant-same b is = mutant-shorter sh ts b (mutant-longer sh us b is)

  -- the same tests, in whatever order and however often each: the same verdict, with the same mutant and sequence
  module _ (there : Among ts us) (back : Among us ts) where
    among_same : (bs : List (List ℕ)) → survivor_among (with_tests sh ts) bs ≡ survivor_among (with_tests sh us) bs
    unfolding survivor_among
    among_same [] = refl
    among_same (b ∷ bs) = go (first_failed_of (with_tests sh ts) b) refl (first_failed_of (with_tests sh us) b) refl (among_same bs)
      where
        go : (f : Option Place) → first_failed_of (with_tests sh ts) b ≡ f → (g : Option Place) → first_failed_of (with_tests sh us) b ≡ g →
            survivor_among (with_tests sh ts) bs ≡ survivor_among (with_tests sh us) bs →
            maybe f (or_else b (compare_of (with_tests sh ts) b) (survivor_among (with_tests sh ts) bs)) (λ p. survivor_among (with_tests sh ts) bs)
            ≡ maybe g (or_else b (compare_of (with_tests sh us) b) (survivor_among (with_tests sh us) bs)) (λ p. survivor_among (with_tests sh us) bs)
        go none ef none eg ih = rw (compare_same b, ih) refl
        go none ef (some g) eg ih = let z = passes-fewer sh us ts back b ef in never (cc)
        go (some f) ef none eg ih = let z = passes-fewer sh ts us there b eg in never (cc)
        go (some f) ef (some g) eg ih = ih

    pub judge-same : judge_of (with_tests sh ts) ≡ judge_of (with_tests sh us)
    unfolding judge_of
    judge-same = rw mutants-same (among_same (mutants (with_tests sh us)))

  -- any reordering of a suite leaves the verdict, its mutant and its sequence the same
  pub judge-reordered : Permᴰ ts us → judge_of (with_tests sh ts) ≡ judge_of (with_tests sh us)
  judge-reordered p = judge-same (reordered-among p) (reordered-among (Permᴰ.symm p))

  -- tests added, none removed
  module _ (there : Among ts us) where
    -- complete stays complete
    pub judge-complete-longer : judge_of (with_tests sh ts) ≡ complete → judge_of (with_tests sh us) ≡ complete
    judge-complete-longer e =
        judge-none (with_tests sh us)
        (λ b is p. sym (compare_same b) ∙ judged-none (with_tests sh ts) e b (mutant-same b is) (passes-fewer sh ts us there b p))

    -- a survivor of the longer suite is that of the shorter one, or a later one in dictionary order
    pub judge-survivor-longer : (b xs c ys : List ℕ) → judge_of (with_tests sh ts) ≡ survivor b xs → judge_of (with_tests sh us) ≡ survivor c ys → (c ≡ b) ⊎ Before b c
    judge-survivor-longer b xs c ys e f =
        let shorter = judged-first (with_tests sh ts) b xs e in
        let longer = judged-first (with_tests sh us) c ys f in
        shorter.least c ys (mutant-same c longer.is) (passes-fewer sh ts us there c longer.passes) (compare_same c ∙ longer.compared)

-- ---- the sheets
-- what holds of each test holds of each in another order
all-reordered : (P : List ℕ → Type 0) {ts us : List (List ℕ)} → Permᴰ ts us → All P ts → All P us
all-reordered P Permᴰ.nil a = a
all-reordered P (Permᴰ.cons e p) a = (subst P e a.0, all-reordered P p a.1)
all-reordered P (Permᴰ.swap e f) a = (subst P f a.1.0, (subst P e a.0, a.1.1))
all-reordered P (Permᴰ.trans p q) a = all-reordered P q (all-reordered P p a)

-- there are as many tests, and as many bytes of them
many-reordered : {ts us : List (List ℕ)} → Permᴰ ts us → length ts ≡ length us
many-reordered Permᴰ.nil = refl
many-reordered (Permᴰ.cons e p) = ap suc (many-reordered p)
many-reordered (Permᴰ.swap e f) = refl
many-reordered (Permᴰ.trans p q) = many-reordered p ∙ many-reordered q

test-length : (t : List ℕ) (ts : List (List ℕ)) → length (test_bytes (t ∷ ts)) ≡ suc (length (press_bytes t) + length (test_bytes ts))
unfolding test_bytes
test-length t ts = ap suc (length-append (press_bytes t) (test_bytes ts))

bytes-reordered : {ts us : List (List ℕ)} → Permᴰ ts us → length (test_bytes ts) ≡ length (test_bytes us)
bytes-reordered Permᴰ.nil = refl
bytes-reordered (Permᴰ.cons {a = a} {b = b} {l₁ = ts} {l₂ = us} e p) =
    omega (arith, test-length a ts, test-length b us, bytes-reordered p, ap (λ (t : List ℕ). length (press_bytes t)) e)
bytes-reordered (Permᴰ.swap {a = a} {b = b} {a' = c} {b' = d} {l = ts} e f) =
    omega (
      arith,
      test-length a (b ∷ ts),
      test-length b ts,
      test-length c (d ∷ ts),
      test-length d ts,
      ap (λ (t : List ℕ). length (press_bytes t)) e,
      ap (λ (t : List ℕ). length (press_bytes t)) f,
    )
bytes-reordered (Permᴰ.trans p q) = bytes-reordered p ∙ bytes-reordered q

machine-same : (sh : Sheet) (us : List (List ℕ)) → machine_bytes (with_tests sh us) ≡ machine_bytes sh
unfolding machine_bytes
machine-same sh us = refl

module _ (sh : Sheet) (us : List (List ℕ)) (p : Permᴰ sh.tests us) where
  length-reordered : length (encode (with_tests sh us)) ≡ length (encode sh)
  unfolding encode body
  length-reordered =
      omega (
        arith,
        length-append (machine_bytes (with_tests sh us) ++ test_bytes us) (6 ∷ []),
        length-append (machine_bytes (with_tests sh us)) (test_bytes us),
        length-append (machine_bytes sh ++ test_bytes sh.tests) (6 ∷ []),
        length-append (machine_bytes sh) (test_bytes sh.tests),
        bytes-reordered p,
        ap length (machine-same sh us),
      )

  well-formed-reordered : WellFormed sh → WellFormed (with_tests sh us)
  well-formed-reordered wf =
      record {
        size = wf.size;
        rules = wf.rules;
        rules-ascend = wf.rules-ascend;
        faults = wf.faults;
        faults-ascend = wf.faults-ascend;
        faults-mutate = wf.faults-mutate;
        few-faults = wf.few-faults;
        starts = wf.starts;
        starts-ascend = wf.starts-ascend;
        few-tests = omega (arith, many-reordered p, wf.few-tests);
        tests = all-reordered (TestIn sh.rules) p wf.tests;
        reached = λ t l. let r = wf.reached t l in record { inputs = r.inputs; leads = r.leads };
        few-open = rw (open-longer sh us) wf.few-open;
      }

  module _ (s : List ℕ) (read : reading s ≡ accepted sh) where
    -- an accepted sheet with its tests in another order is accepted
    pub accepted-reordered : reading (encode (with_tests sh us)) ≡ accepted (with_tests sh us)
    accepted-reordered =
        accepts (with_tests sh us) (well-formed-reordered (well-formed s sh read))
        (omega (arith, length-reordered, ap length (encoded s sh read), short-enough s sh read))

-- ---- through the bytes: two accepted sheets that differ in their tests alone
-- what Judge answers, by the two tests for room and the judgement
answered : Bool → Bool → Judgement → Result Judgement
answered short narrow j = refuse_if short 16 0 (refuse_if narrow 16 1 (accepted j))

no-earlier : (b : List ℕ) (k : Judgement) → ((c ys : List ℕ) → k ≡ survivor c ys → (c ≡ b) ⊎ Before b c) → NoEarlier b k
no-earlier b complete later = tt
no-earlier b (survivor c ys) later = later c ys refl

advances :
    (short narrow : Bool) (j k : Judgement) → (j ≡ complete → k ≡ complete) →
    ((b xs c ys : List ℕ) → j ≡ survivor b xs → k ≡ survivor c ys → (c ≡ b) ⊎ Before b c) →
    Advances (answered short narrow j) (answered short narrow k)
unfolding answered
advances true narrow j k stays later = refl
advances false true j k stays later = refl
advances false false complete k stays later = ap accepted (stays refl)
advances false false (survivor b xs) k stays later = (k, refl, no-earlier b k (λ c ys e. later b xs c ys refl e))

module _ (s t : List ℕ) (ts us : List (List ℕ)) (sheets : Relisted s t ts us) (board_room sequence_room : ℕ) where
  abbrev sh : Sheet
  sh = sheets.machine

  -- whether a buffer is too short
  abbrev short : Bool
  short = ltb board_room (length (slots sh))

  abbrev narrow : Bool
  narrow = ltb sequence_room (sh.size.states * sh.size.states)

  asked :
      (r : List ℕ) (vs : List (List ℕ)) → reading r ≡ accepted (with_tests sh vs) →
      judging r board_room sequence_room ≡ answered short narrow (judge_of (with_tests sh vs))
  unfolding judging judge_on answered
  asked r vs read = rw (read, slots-longer sh vs) refl

  -- the same tests, in whatever order and however often each: Judge answers and writes the same
  pub judging-same : Among ts us → Among us ts → judging t board_room sequence_room ≡ judging s board_room sequence_room
  judging-same there back =
      asked t us sheets.second
      ∙ ap (answered short narrow) (sym (judge-same sh ts us there back))
      ∙ sym (asked s ts sheets.first)

  -- any reordering of a list leaves the verdict, its board and its press sequence the same
  pub judging-reordered : Permᴰ ts us → judging t board_room sequence_room ≡ judging s board_room sequence_room
  judging-reordered p = judging-same (reordered-among p) (reordered-among (Permᴰ.symm p))

  -- tests added, none removed: complete stays complete, and a survivor is the shorter list's or a later one in dictionary order
  pub judging-longer : Among ts us → Advances (judging s board_room sequence_room) (judging t board_room sequence_room)
  judging-longer there =
      rw (asked s ts sheets.first, asked t us sheets.second)
      (advances short narrow (judge_of (with_tests sh ts)) (judge_of (with_tests sh us))
      (judge-complete-longer sh ts us there) (judge-survivor-longer sh ts us there))
