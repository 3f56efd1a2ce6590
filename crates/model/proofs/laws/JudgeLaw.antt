-- The answers of compare and judge mean what they should.
use Rattle.std.specs.Prelude.{ℕ, ◌≡◌, ◌⊎◌}
use Rattle.std.proofs.Math.Path.{refl}
use Rattle.std.proofs.Common.{sym, ◌∙◌, subst, inl, inr}
use Rattle.std.proofs.Math.Logic.{⊎_elim}
use Rattle.std.proofs.Math.Option.{Option, none, some}
use mathlib.Core.List.Memᴰ
use mathlib.Core.List.{List, [], ◌∷◌, Memᴰ}
use Rattle.lists.specs.Lists.{Ascending, Before}
use Rattle.sheet.specs.Sheet.{Sheet}
use Rattle.sheet.specs.WellFormed.{WellFormed}
use Rattle.lists.specs.laws.TestLaw.{never}
use Rattle.model.specs.Mutant.{mutants, IsMutant, initial, against, Conforming}
use Rattle.model.specs.Compare.{compare_pair}
use Rattle.model.specs.Suite.{Place, first_failed_of, Passes, compare_of, Judgement, complete, survivor, survivor_among, judge_of}
use Rattle.model.specs.Verdict.{ShortestOf, ComparedMeans, Survives, FirstSurvivor, Complete}
use Rattle.lists.specs.laws.AllLaw.{all-mem}
use Rattle.model.proofs.laws.StaysLaw.{closed, some-state, start-below}
use Rattle.model.proofs.laws.CompareLaw.{compare-none, compare-some, conforming-not}
use Rattle.model.proofs.laws.MutantLaw.{listed, listed-in-range, mutants-ascending}

-- a mutant that is not the answer: if it passes, compare finds nothing
abbrev Cleared : Sheet → List ℕ → Type 0
Cleared sh b = Passes sh b → compare_of sh b ≡ none

-- one mutant more: it is cleared, or it is the answer
data Turn (sh : Sheet) (b : List ℕ) (bs : List (List ℕ)) : Type 0 where
  over : Cleared sh b → survivor_among sh (b ∷ bs) ≡ survivor_among sh bs → Turn sh b bs
  here : (xs : List ℕ) → Passes sh b → compare_of sh b ≡ some xs → survivor_among sh (b ∷ bs) ≡ survivor b xs → Turn sh b bs

turn : (sh : Sheet) (b : List ℕ) (bs : List (List ℕ)) → Turn sh b bs
unfolding survivor_among
turn sh b bs = go (first_failed_of sh b) refl (compare_of sh b) refl
  where
    go : (f : Option Place) → first_failed_of sh b ≡ f → (o : Option (List ℕ)) → compare_of sh b ≡ o → Turn sh b bs
    go none ef none eo = over (λ _. eo) (rw (ef, eo) refl)
    go none ef (some xs) eo = here xs ef eo (rw (ef, eo) refl)
    go (some f) ef o eo = over (λ p. never (cc)) (rw ef refl)

-- `complete`: every mutant of the list is cleared
all-cleared : (sh : Sheet) (bs : List (List ℕ)) → survivor_among sh bs ≡ complete → (b : List ℕ) → Memᴰ b bs → Cleared sh b
all-cleared sh [] e b m p = absurd (Memᴰ.not-nil m)
all-cleared sh (c ∷ bs) e b m p = go (turn sh c bs) (all-cleared sh bs)
  where
    go : Turn sh c bs → (survivor_among sh bs ≡ complete → (d : List ℕ) → Memᴰ d bs → Cleared sh d) → compare_of sh b ≡ none
    go (over cleared q) ih =
        ⊎_elim (λ eb. subst (Cleared sh) (sym eb) cleared p) (λ t. ih (sym q ∙ e) b t p) (Memᴰ.cases_cons m)
    go (here xs pc ec q) ih = never (cc)

-- where every mutant of the list is cleared: `complete`
cleared-all : (sh : Sheet) (bs : List (List ℕ)) → ((b : List ℕ) → Memᴰ b bs → Cleared sh b) → survivor_among sh bs ≡ complete
unfolding survivor_among
cleared-all sh [] h = refl
cleared-all sh (c ∷ bs) h = go (turn sh c bs) (cleared-all sh bs (λ b m. h b (Memᴰ.tail m)))
  where
    go : Turn sh c bs → survivor_among sh bs ≡ complete → survivor_among sh (c ∷ bs) ≡ complete
    go (over cleared q) ih = q ∙ ih
    go (here xs pc ec q) ih = let w = h c (Memᴰ.head refl) pc in never (cc)

-- of the mutants of a list b is not cleared, and every other stands after it or is cleared
record FirstIn (sh : Sheet) (bs : List (List ℕ)) (b xs : List ℕ) : Type 0 where
  among : Memᴰ b bs
  passes : Passes sh b
  compared : compare_of sh b ≡ some xs
  least : (c : List ℕ) → Memᴰ c bs → Cleared sh c ⊎ ((c ≡ b) ⊎ Before b c)

-- the answer of an ascending list is such a mutant
first-in : (sh : Sheet) (bs : List (List ℕ)) (b xs : List ℕ) → Ascending Before bs → survivor_among sh bs ≡ survivor b xs →
    FirstIn sh bs b xs
unfolding survivor_among Ascending
first-in sh [] b xs a e = never (cc)
first-in sh (c ∷ bs) b xs a e = go (turn sh c bs) (first-in sh bs b xs a.1)
  where
    go : Turn sh c bs → (survivor_among sh bs ≡ survivor b xs → FirstIn sh bs b xs) → FirstIn sh (c ∷ bs) b xs
    go (over cleared q) ih =
        let f = ih (sym q ∙ e) in
        record {
          among = Memᴰ.tail f.among;
          passes = f.passes;
          compared = f.compared;
          least = λ d m. ⊎_elim (λ ed. inl (subst (Cleared sh) (sym ed) cleared)) (λ t. f.least d t) (Memᴰ.cases_cons m);
        }
    go (here ys pc ec q) ih =
        let eb : c ≡ b = cc in
        let ey : ys ≡ xs = cc in
        record {
          among = Memᴰ.head (sym eb);
          passes = rw (← eb) pc;
          compared = rw (← eb, ← ey) ec;
          least = λ d m. inr (⊎_elim (λ ed. inl (ed ∙ eb)) (λ t. inr (rw (← eb) (all-mem (Before c) bs d a.0 t))) (Memᴰ.cases_cons m));
        }

-- of an ascending list the mutant that passes and is not cleared, where all before it are cleared, is the answer
first_of : (sh : Sheet) (bs : List (List ℕ)) (b xs : List ℕ) → Ascending Before bs → Memᴰ b bs → Passes sh b →
    compare_of sh b ≡ some xs →
    ((c : List ℕ) → Memᴰ c bs → Before c b → Cleared sh c) → survivor_among sh bs ≡ survivor b xs
unfolding Ascending
first_of sh [] b xs a m p e h = absurd (Memᴰ.not-nil m)
first_of sh (c ∷ bs) b xs a m p e h =
    ⊎_elim (λ eb. at (turn sh c bs) eb)
    (λ t. later (turn sh c bs) t (first_of sh bs b xs a.1 t p e (λ d md. h d (Memᴰ.tail md))))
    (Memᴰ.cases_cons m)
  where
    at : Turn sh c bs → b ≡ c → survivor_among sh (c ∷ bs) ≡ survivor b xs
    at (over cleared q) eb =
        let w : compare_of sh c ≡ none = cleared (rw (← eb) p) in
        let w' : compare_of sh c ≡ some xs = rw (← eb) e in
        never (cc)
    at (here ys pc ec q) eb =
        let w : compare_of sh c ≡ some xs = rw (← eb) e in
        let ey : ys ≡ xs = cc in
        q ∙ cc

    later : Turn sh c bs → Memᴰ b bs → survivor_among sh bs ≡ survivor b xs → survivor_among sh (c ∷ bs) ≡ survivor b xs
    later (over cleared q) t ih = q ∙ ih
    later (here ys pc ec q) t ih =
        let w : compare_of sh c ≡ none = h c (Memᴰ.head refl) (all-mem (Before c) bs b a.0 t) pc in
        never (cc)

-- judge says complete where every mutant that passes conforms, as compare tells
pub judge-none : (sh : Sheet) → ((b : List ℕ) → IsMutant sh b → Passes sh b → compare_of sh b ≡ none) → judge_of sh ≡ complete
unfolding judge_of
judge-none sh h = cleared-all sh (mutants sh) (λ b m. h b (listed-in-range sh b m))

-- judge names the first mutant that passes and does not conform, as compare tells, with what compare finds
pub judge-first : (sh : Sheet) (b xs : List ℕ) → IsMutant sh b → Passes sh b → compare_of sh b ≡ some xs →
    ((c : List ℕ) → IsMutant sh c → Before c b → Passes sh c → compare_of sh c ≡ none) → judge_of sh ≡ survivor b xs
unfolding judge_of
judge-first sh b xs is p e h =
    first_of sh (mutants sh) b xs (mutants-ascending sh) (listed sh b is) p e (λ c m. h c (listed-in-range sh c m))

-- and back: where it says complete, compare finds nothing in a mutant that passes
pub judged-none : (sh : Sheet) → judge_of sh ≡ complete → (b : List ℕ) → IsMutant sh b → Passes sh b → compare_of sh b ≡ none
unfolding judge_of
judged-none sh e b is = all-cleared sh (mutants sh) e b (listed sh b is)

-- the mutant that it names passes, compare finds the sequence, and every other in which compare finds something stands later
pub record Named (sh : Sheet) (b xs : List ℕ) : Type 0 where
  pub is : IsMutant sh b
  pub passes : Passes sh b
  pub compared : compare_of sh b ≡ some xs
  pub least : (c ys : List ℕ) → IsMutant sh c → Passes sh c → compare_of sh c ≡ some ys → (c ≡ b) ⊎ Before b c

pub judged-first : (sh : Sheet) (b xs : List ℕ) → judge_of sh ≡ survivor b xs → Named sh b xs
unfolding judge_of
judged-first sh b xs e =
    let f = first-in sh (mutants sh) b xs (mutants-ascending sh) e in
    record {
      is = listed-in-range sh b f.among;
      passes = f.passes;
      compared = f.compared;
      least = λ c ys is p ec. ⊎_elim (λ cleared. let z : compare_of sh c ≡ none = cleared p in never (cc)) (λ r. r) (f.least c (listed sh c is));
    }

module _ (sh : Sheet) (wf : WellFormed sh) where
  -- compare means what it says, of any bytes
  pub compared : (b : List ℕ) → ComparedMeans sh b (compare_of sh b)
  unfolding compare_of compare_pair
  compared b = go (compare_of sh b) refl
    where
      go : (o : Option (List ℕ)) → compare_of sh b ≡ o → ComparedMeans sh b o
      go none e = compare-none (against sh b) 0 (initial sh b) (closed sh b wf) (some-state sh wf) (start-below sh b wf) e
      go (some xs) e =
          let s = compare-some (against sh b) 0 (initial sh b) (closed sh b wf) (some-state sh wf) (start-below sh b wf) xs e in
          record { distinguishes = s.distinguishes; short = s.short; least = s.least }

  -- where compare finds nothing, the mutant conforms
  pub compared-none : (b : List ℕ) → compare_of sh b ≡ none → Conforming sh b
  compared-none b e = subst (ComparedMeans sh b) e (compared b)

  -- what compare finds is the shortest distinguishing sequence
  pub compared-some : (b xs : List ℕ) → compare_of sh b ≡ some xs → ShortestOf sh b xs
  compared-some b xs e = subst (ComparedMeans sh b) e (compared b)

  -- where compare finds something, the mutant does not conform
  pub some-nonconforming : (b xs : List ℕ) → compare_of sh b ≡ some xs → Conforming sh b → ⊥
  some-nonconforming b xs e c = conforming-not (against sh b) 0 (initial sh b) xs c (compared-some b xs e).distinguishes

  -- what judge calls complete is complete
  pub judged-complete : judge_of sh ≡ complete → Complete sh
  unfolding judge_of Complete
  judged-complete e = λ b is departs p. departs (compared-none b (all-cleared sh (mutants sh) e b (listed sh b is) p))

  -- what judge shows is the first survivor, with its shortest distinguishing sequence
  pub judged-survivor : (b xs : List ℕ) → judge_of sh ≡ survivor b xs → FirstSurvivor sh b × ShortestOf sh b xs
  unfolding judge_of
  judged-survivor b xs e = go (first-in sh (mutants sh) b xs (mutants-ascending sh) e)
    where
      first : FirstIn sh (mutants sh) b xs → (c : List ℕ) → Survives sh c → (c ≡ b) ⊎ Before b c
      first f c v =
          ⊎_elim (λ cleared. absurd (v.nonconforming (compared-none c (cleared v.passes)))) (λ r. r)
          (f.least c (listed sh c v.is))

      go : FirstIn sh (mutants sh) b xs → FirstSurvivor sh b × ShortestOf sh b xs
      go f = (
        record {
          survives = record { is = listed-in-range sh b f.among; passes = f.passes; nonconforming = some-nonconforming b xs f.compared };
          least = first f;
        },
        compared-some b xs f.compared,
      )

  -- a complete suite is judged complete
  pub exact : Complete sh → judge_of sh ≡ complete
  unfolding Complete
  exact h = go (judge_of sh) refl
    where
      go : (j : Judgement) → judge_of sh ≡ j → j ≡ complete
      go complete e = refl
      go (survivor b xs) e =
          let s = (judged-survivor b xs e).0.survives in
          absurd (h b s.is s.nonconforming s.passes)

  -- judge says complete of exactly the complete suites
  pub complete-exactly : (judge_of sh ≡ complete → Complete sh) × (Complete sh → judge_of sh ≡ complete)
  complete-exactly = (judged-complete, exact)
