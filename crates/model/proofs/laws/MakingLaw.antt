-- What a made suite is: the theorem behind 02's Point 6.
use Rattle.std.specs.Prelude.{ℕ, zero, suc, ◌+◌, ◌-◌, ◌≤◌, ◌<◌, ◌≡◌, refl, Bool, true, false, cond, ◌⊎◌, ltb}
use Rattle.std.proofs.Common.{arith, ◌∙◌, ap, inl, inr, ltb-true, ltb-false, lt-ltb, le-ltb, length-append}
use Rattle.std.proofs.Math.Path.{sym, subst}
use mathlib.Core.List.{List, [], ◌∷◌, ◌++◌, append_assoc, append-nil}
use Rattle.std.proofs.Math.ListN.{length}
use Rattle.sheet.specs.Sheet.{Sheet}
use Rattle.sheet.specs.Encode.{encode}
use Rattle.sheet.specs.Reading.{Result, accepted, refused, reading, with_tests}
use Rattle.sheet.specs.WellFormed.{WellFormed}
use Rattle.sheet.specs.laws.AcceptedLaw.{well-formed, short-enough}
use Rattle.sheet.specs.laws.AcceptsLaw.{accepts}
use Rattle.sheet.specs.laws.EncodedLaw.{encoded}
use Rattle.model.specs.Machine.{DistinguishesFrom}
use Rattle.model.specs.Mutant.{specified, outputs}
use Rattle.model.specs.Suite.{Judgement, complete, survivor, judge_of}
use Rattle.model.specs.Verdict.{RightOn, ShortestOf, FirstSurvivor}
use Rattle.model.proofs.laws.JudgeLaw.{judged-complete, judged-survivor}
use Rattle.model.proofs.laws.GuaranteeLaw.{guarantee}
use Rattle.model.specs.Longer.{with_test}
use Rattle.model.specs.Making.{Grown, judged_by, grow_from, Needed, EachNeeded, MadeComplete, NoRoom, MadeMeans}
use Rattle.model.proofs.laws.LongerLaw.{rule-longer, step-longer, start-longer, shortest-test, well-formed-longer}

-- ---- by the judgement
pub grow-complete : (room appended : ℕ) (sh : Sheet) → judge_of sh ≡ complete → grow_from room appended sh ≡ accepted (record { sheet = sh; appended = appended })
unfolding grow_from
grow-complete zero appended sh e = rw e refl
grow-complete (suc room) appended sh e = rw e refl

pub grow-more : (room appended : ℕ) (sh : Sheet) (b xs : List ℕ) → judge_of sh ≡ survivor b xs → 0 < room → length (encode (with_test sh xs)) ≤ 16384 →
    grow_from room appended sh ≡ grow_from (room - 1) (appended + 1) (with_test sh xs)
unfolding grow_from
grow-more zero appended sh b xs e some l = absurd (omega arith)
grow-more (suc room) appended sh b xs e some l =
    let less : suc room - 1 ≡ room = omega arith in
    let more : appended + 1 ≡ suc appended = omega arith in
    rw (e, le-ltb 16384 (length (encode (with_test sh xs))) l, less, more) refl

pub grow-full : (room appended : ℕ) (sh : Sheet) (b xs : List ℕ) → judge_of sh ≡ survivor b xs → (room ≡ 0) ⊎ (16384 < length (encode (with_test sh xs))) →
    grow_from room appended sh ≡ refused 18 0
unfolding grow_from
grow-full zero appended sh b xs e h = rw e refl
grow-full (suc room) appended sh b xs e (inl z) = absurd (omega arith)
grow-full (suc room) appended sh b xs e (inr l) = rw (e, lt-ltb 16384 (length (encode (with_test sh xs))) l) refl

-- ---- what it means
-- what an answer means: the suite is made, and the sheet is accepted; or there is no room
abbrev pub GrownMeans : Sheet → ℕ → Result Grown → Type 0
GrownMeans sh n (accepted g) =
    (appended : ℕ) × (g.appended ≡ n + appended) × MadeComplete sh g.sheet appended × (reading (encode g.sheet) ≡ accepted g.sheet)
GrownMeans sh n (refused number place) = (number ≡ 18) × (place ≡ 0) × NoRoom sh

-- a mutant is not right on a sequence that distinguishes it
distinguished-wrong : (sh : Sheet) (b xs : List ℕ) → ShortestOf sh b xs → RightOn sh b xs → ⊥
unfolding DistinguishesFrom specified outputs
distinguished-wrong sh b xs s right = let d = s.distinguishes in let same : d.0 ≡ outputs sh b xs = cc (d.1, right) in d.2 (sym same)

-- what is right on a test depends on the machine alone
right-longer : (sh : Sheet) (ts : List (List ℕ)) (b xs : List ℕ) → RightOn sh b xs → RightOn (with_tests sh ts) b xs
unfolding specified outputs
right-longer sh ts b xs right = rw (rule-longer sh ts, step-longer sh ts b, start-longer sh ts b) right

each-longer : (sh : Sheet) (vs ts us : List (List ℕ)) → EachNeeded (with_tests sh vs) ts us → EachNeeded sh ts us
unfolding EachNeeded
each-longer sh vs ts [] n = tt
each-longer sh vs ts (xs ∷ us) n = (
  record { mutant = n.0.mutant; first = n.0.first; shortest = n.0.shortest; fails = λ right. n.0.fails (right-longer sh vs n.0.mutant xs right) },
  each-longer sh vs (ts ++ xs ∷ []) us n.1,
)

-- the verdict of a sheet is a survivor with this sequence
module _ (sh : Sheet) (b xs : List ℕ) (first : FirstSurvivor sh b) (shortest : ShortestOf sh b xs) where
  here : Needed sh sh.tests xs
  here = record { mutant = b; first = first; shortest = shortest; fails = distinguished-wrong sh b xs shortest }

  -- what is appended after it
  joins : (added : List (List ℕ)) → (sh.tests ++ xs ∷ []) ++ added ≡ sh.tests ++ xs ∷ added
  joins added = append_assoc sh.tests (xs ∷ []) added

  before : (added : List (List ℕ)) → EachNeeded (with_test sh xs) (sh.tests ++ xs ∷ []) added → EachNeeded sh sh.tests (xs ∷ added)
  unfolding EachNeeded
  before added n = (here, each-longer sh (sh.tests ++ xs ∷ []) (sh.tests ++ xs ∷ []) added n)

  grown-more : (n : ℕ) (r : Result Grown) → GrownMeans (with_test sh xs) (suc n) r → GrownMeans sh n r
  grown-more n (accepted g) m =
      let made = m.2 in (
        suc m.0,
        m.1 ∙ omega arith,
        record {
          added = xs ∷ made.added;
          is = made.is ∙ ap (with_tests sh) (joins made.added);
          many = ap suc made.many;
          needed = before made.added made.needed;
          complete = made.complete;
          guaranteed = made.guaranteed;
        },
        m.3,
      )
  grown-more n (refused number place) m =
      let full = m.2 in
      let same = joins full.added in (
        m.0,
        m.1,
        record {
          added = xs ∷ full.added;
          needed = before full.added full.needed;
          mutant = full.mutant;
          sequence = full.sequence;
          survivor = subst (λ (ts : List (List ℕ)). FirstSurvivor (with_tests sh ts) full.mutant) same full.survivor;
          shortest = subst (λ (ts : List (List ℕ)). ShortestOf (with_tests sh ts) full.mutant full.sequence) same full.shortest;
          full = subst (λ (ts : List (List ℕ)). (length ts ≡ 256) ⊎ (16384 < length (encode (with_tests sh (ts ++ full.sequence ∷ []))))) same full.full;
        },
      )

  -- it does not fit
  no_room : (length sh.tests ≡ 256) ⊎ (16384 < length (encode (with_test sh xs))) → NoRoom sh
  unfolding EachNeeded
  no_room full =
      let same : sh.tests ≡ sh.tests ++ [] = sym (append-nil sh.tests) in
      record {
        added = [];
        needed = tt;
        mutant = b;
        sequence = xs;
        survivor = subst (λ (ts : List (List ℕ)). FirstSurvivor (with_tests sh ts) b) same first;
        shortest = subst (λ (ts : List (List ℕ)). ShortestOf (with_tests sh ts) b xs) same shortest;
        full = subst (λ (ts : List (List ℕ)). (length ts ≡ 256) ⊎ (16384 < length (encode (with_tests sh (ts ++ xs ∷ []))))) same full;
      }

-- the verdict is complete
grown-here : (sh : Sheet) (n : ℕ) → WellFormed sh → length (encode sh) ≤ 16384 → judge_of sh ≡ complete → GrownMeans sh n (accepted (record { sheet = sh; appended = n }))
unfolding EachNeeded
grown-here sh n wf short e =
    let all = judged-complete sh wf e in (
      0,
      omega arith,
      record {
        added = [];
        is = ap (with_tests sh) (sym (append-nil sh.tests));
        many = refl;
        needed = tt;
        complete = all;
        guaranteed = guarantee sh wf all;
      },
      accepts sh wf short,
    )

pub grown-means : (room n : ℕ) (sh : Sheet) → WellFormed sh → length sh.tests + room ≡ 256 → length (encode sh) ≤ 16384 → GrownMeans sh n (grow_from room n sh)
unfolding grow_from
grown-means zero n sh wf e short = go (judge_of sh) refl
  where
    go : (j : Judgement) → judge_of sh ≡ j → GrownMeans sh n (judged_by j (accepted (record { sheet = sh; appended = n })) (λ xs. refused 18 0))
    go complete ej = grown-here sh n wf short ej
    go (survivor b xs) ej = let s = judged-survivor sh wf b xs ej in (refl, refl, no_room sh b xs s.0 s.1 (inl (omega arith)))
grown-means (suc room) n sh wf e short = go (judge_of sh) refl (λ xs. grown-means room (suc n) (with_test sh xs))
  where
    go : (j : Judgement) → judge_of sh ≡ j →
        ((xs : List ℕ) → WellFormed (with_test sh xs) → length (sh.tests ++ xs ∷ []) + room ≡ 256 → length (encode (with_test sh xs)) ≤ 16384 → GrownMeans (with_test sh xs) (suc n) (grow_from room (suc n) (with_test sh xs))) →
        GrownMeans sh n (judged_by j (accepted (record { sheet = sh; appended = n })) (λ xs. cond (ltb 16384 (length (encode (with_test sh xs)))) (refused 18 0) (grow_from room (suc n) (with_test sh xs))))
    go complete ej ih = grown-here sh n wf short ej
    go (survivor b xs) ej ih = fit (ltb 16384 (length (encode (with_test sh xs)))) refl
      where
        s : FirstSurvivor sh b × ShortestOf sh b xs
        s = judged-survivor sh wf b xs ej

        fit : (c : Bool) → ltb 16384 (length (encode (with_test sh xs))) ≡ c → GrownMeans sh n (cond c (refused 18 0) (grow_from room (suc n) (with_test sh xs)))
        fit true ec = (refl, refl, no_room sh b xs s.0 s.1 (inr (ltb-true _ _ ec)))
        fit false ec =
            grown-more sh b xs s.0 s.1 n (grow_from room (suc n) (with_test sh xs))
            (ih xs (well-formed-longer sh xs wf (omega arith) (shortest-test sh b xs wf s.1)) (omega (arith, length-append sh.tests (xs ∷ []))) (ltb-false _ _ ec))

-- 02, Point 6: what becomes of an accepted sheet
pub made_told : (s : List ℕ) (sh : Sheet) → reading s ≡ accepted sh → MadeMeans sh (grow_from (256 - length sh.tests) 0 sh)
made_told s sh read =
    let wf = well-formed s sh read in
    go (grow_from (256 - length sh.tests) 0 sh)
    (grown-means (256 - length sh.tests) 0 sh wf (omega (arith, wf.few-tests)) (rw (encoded s sh read) (short-enough s sh read)))
  where
    go : (r : Result Grown) → GrownMeans sh 0 r → MadeMeans sh r
    go (accepted g) m = let same : m.0 ≡ g.appended = omega (arith, m.1) in (subst (MadeComplete sh g.sheet) same m.2, m.3)
    go (refused number place) m = m
