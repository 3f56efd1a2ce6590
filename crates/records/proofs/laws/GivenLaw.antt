-- The mutants that give a record; the suite's own record.
use Rattle.lists.specs.Proving.{ℕ, refl, sym, ap, true, Option, some, none, List, [], inl, inr, ⊎_elim, never}
use Rattle.std.specs.Prelude.{not, ◌≡◌, ◌∷◌}
use mathlib.Core.List.Memᴰ
use mathlib.Core.List.{Memᴰ}
use Rattle.lists.specs.Lists.{is_none, Ascending, Before}
use Rattle.lists.specs.laws.AllLaw.{all-mem}
use Rattle.sheet.specs.Sheet.{Sheet}
use Rattle.sheet.specs.WellFormed.{WellFormed}
use Rattle.model.specs.Mutant.{step, initial, mutants, IsMutant}
use Rattle.model.specs.Suite.{compare_of}
use Rattle.model.specs.Log.{GivesFrom, failed_in}
use Rattle.model.specs.Walk.{Taken, first_taken}
use Rattle.model.proofs.laws.MutantLaw.{listed, listed-in-range, mutants-ascending}
use Rattle.model.proofs.laws.JudgeLaw.{compared}
use Rattle.model.proofs.laws.LogLaw.{none-gives}
use Rattle.logs.specs.laws.WalkedLaw.{gives_none}
use Rattle.model.proofs.laws.WalkLaw.{keep-mem, mem-keep, keep-ascending}
use Rattle.block.specs.Logged.{observations}
use Rattle.records.specs.Record.{gives, giving, first_giving, outcome_of}
use Rattle.records.specs.Means.{GivesRecord, GivenMeans, ExplainedMeans}

none_is : {A : Type 0} (o : Option A) → is_none o ≡ true → o ≡ none
none_is none e = refl
none_is (some a) e = never (cc)

module _ (sh : Sheet) (log : List ℕ) where
  -- exactly the mutants that give it, in dictionary order
  giving-gives : {b : List ℕ} → Memᴰ b (giving sh (observations log)) → GivesRecord sh log b
  unfolding giving
  giving-gives {b} m =
      let k = keep-mem (λ b. gives sh b (observations log)) (mutants sh) m in
      record {
        is = listed-in-range sh b k.0;
        gives = none-gives (step sh b) (initial sh b) (observations log) (initial sh b) 0 0 (none_is (failed_in (step sh b) (initial sh b) (initial sh b) 0 0 (observations log)) k.1);
      }

  gives-giving : {b : List ℕ} → GivesRecord sh log b → Memᴰ b (giving sh (observations log))
  unfolding giving
  gives-giving {b} g =
      mem-keep (λ b. gives sh b (observations log)) (mutants sh) (listed sh b g.is)
      (rw (gives_none (step sh b) (initial sh b) (observations log) (initial sh b) 0 0 g.gives) refl)

  giving-ascending : Ascending Before (giving sh (observations log))
  unfolding giving
  giving-ascending = keep-ascending (λ b. gives sh b (observations log)) Before (mutants sh) (mutants-ascending sh)

  -- what a search has to show: none gives it
  pub giving-none : ((b : List ℕ) → GivesRecord sh log b → ⊥) → first_giving sh log ≡ none
  unfolding first_giving
  giving-none h = go (giving sh (observations log)) (λ b m. h b (giving-gives m))
    where
      go : (bs : List (List ℕ)) → ((b : List ℕ) → Memᴰ b bs → ⊥) → first_taken sh bs ≡ none
      go [] n = refl
      go (b ∷ bs) n = absurd (n b (Memᴰ.head refl))

  -- one does, and none before it
  pub giving-first : (b : List ℕ) → GivesRecord sh log b → ((c : List ℕ) → GivesRecord sh log c → Before c b → ⊥) →
      first_giving sh log ≡ some (record { mutant = b; compared = compare_of sh b })
  unfolding first_giving Ascending
  giving-first b r h = go (giving sh (observations log)) giving-ascending (gives-giving r) (λ c m. h c (giving-gives m))
    where
      go : (bs : List (List ℕ)) → Ascending Before bs → Memᴰ b bs → ((c : List ℕ) → Memᴰ c bs → Before c b → ⊥) →
          first_taken sh bs ≡ some (record { mutant = b; compared = compare_of sh b })
      go [] a m n = absurd (Memᴰ.not-nil m)
      go (c ∷ bs) a m n =
          ⊎_elim (λ e. ap (λ (d : List ℕ). some (record { mutant = d; compared = compare_of sh d })) (sym e)) (λ t. absurd (n c (Memᴰ.head refl) (all-mem (Before c) bs b a.0 t)))
          (Memᴰ.cases_cons m)

  -- the first board that gives the record, with compare's answer, or none does
  pub explained-means : WellFormed sh → ExplainedMeans sh log (first_giving sh log)
  unfolding first_giving Ascending
  explained-means wf = go (giving sh (observations log)) giving-ascending (λ b m. giving-gives m) (λ b r. gives-giving r)
    where
      go : (bs : List (List ℕ)) → Ascending Before bs → ((b : List ℕ) → Memᴰ b bs → GivesRecord sh log b) → ((b : List ℕ) → GivesRecord sh log b → Memᴰ b bs) →
          ExplainedMeans sh log (first_taken sh bs)
      go [] a f g = λ b r. Memᴰ.not-nil (g b r)
      go (c ∷ bs) a f g = (
        record {
          gives = f c (Memᴰ.head refl);
          least = λ d r. ⊎_elim (λ e. inl e) (λ t. inr (all-mem (Before c) bs d a.0 t)) (Memᴰ.cases_cons (g d r));
        },
        compared sh wf c,
      )

  -- 02: yes exactly when one does
  pub given-means : WellFormed sh → GivenMeans sh log (outcome_of sh log).given
  unfolding outcome_of
  given-means wf = go (first_giving sh log) (explained-means wf)
    where
      go : (o : Option Taken) → ExplainedMeans sh log o → GivenMeans sh log (not (is_none o))
      go none e = e
      go (some t) e = (t.mutant, e.0.gives)

-- 02: an empty log is given by every board
pub empty-given : (sh : Sheet) (b : List ℕ) → IsMutant sh b → GivesRecord sh [] b
unfolding observations GivesFrom
empty-given sh b is = record { is = is; gives = tt }
