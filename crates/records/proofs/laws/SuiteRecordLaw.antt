-- The record of the test suite itself: it is whole, and a mutant passes the suite exactly if it gives it.
use Rattle.std.specs.Prelude.{◌≡◌, ◌∷◌}
use Rattle.lists.specs.Proving.{arith, ℕ, refl, sym, ◌∙◌, false, Option, some, none, List, []}
use Rattle.lists.specs.Lists.{maybe, All}
use Rattle.lists.specs.laws.AllLaw.{all_append}
use Rattle.sheet.specs.Sheet.{Sheet}
use Rattle.sheet.specs.WellFormed.{WellFormed}
use Rattle.model.specs.Machine.{Move}
use Rattle.model.specs.Mutant.{rule, step, initial, IsMutant}
use Rattle.model.specs.Suite.{Passes}
use Rattle.model.specs.Log.{Observation, seen, test_log, tests_log, suite_log}
use Rattle.model.proofs.laws.StaysLaw.{rule-in}
use Rattle.model.proofs.laws.LogLaw.{failed-log, passes-gives}
use Rattle.block.specs.Logged.{observations}
use Rattle.logs.specs.laws.WalkedLaw.{gives_none}
use Rattle.records.specs.Record.{broken_in}
use Rattle.records.specs.Means.{Within, Led, GivesRecord, suite_record}
use Rattle.records.proofs.laws.ScanLaw.{spelled-whole, observed}

module _ (sh : Sheet) (wf : WellFormed sh) where
  abbrev Inside : Observation → Type 0
  Inside = Within sh.size.inputs sh.size.outputs

  test-within : (xs : List ℕ) (s : ℕ) → All Inside (test_log (rule sh) s xs)
  unfolding test_log
  test-within [] s = tt
  test-within (x ∷ xs) s = go (rule sh s x) refl (test-within xs)
    where
      go : (o : Option Move) → rule sh s x ≡ o → ((q : ℕ) → All Inside (test_log (rule sh) q xs)) →
          All Inside (maybe o [] (λ r. seen x r.output ∷ test_log (rule sh) r.target xs))
      go none e h = tt
      go (some r) e h = let i = rule-in sh wf s x r e in ((i.input, i.move.output), h r.target)

  tests-within : (ts : List (List ℕ)) → All Inside (tests_log (rule sh) ts)
  unfolding tests_log
  tests-within [] = tt
  tests-within (xs ∷ ts) = (tt, all_append Inside (test_log (rule sh) 0 xs) (tests_log (rule sh) ts) (test-within xs 0) (tests-within ts))

  tests-led : (ts : List (List ℕ)) → Led false (tests_log (rule sh) ts)
  unfolding tests_log
  tests-led [] = tt
  tests-led (xs ∷ ts) = tt

  -- it is not refused
  pub suite-whole : broken_in sh (suite_record sh) ≡ none
  unfolding broken_in suite_log suite_record
  suite-whole = spelled-whole sh.size.inputs sh.size.outputs (suite_log sh) false 0 (tests-within sh.tests) (tests-led sh.tests)

  suite-observed : observations (suite_record sh) ≡ suite_log sh
  unfolding suite_log suite_record
  suite-observed = observed sh.size.inputs sh.size.outputs (omega (arith, wf.size.inputs)) (omega (arith, wf.size.outputs)) (suite_log sh) (tests-within sh.tests)

  -- a board passes the list exactly if it gives the suite's record
  pub passes-gives-record : (b : List ℕ) → IsMutant sh b → Passes sh b → GivesRecord sh (suite_record sh) b
  passes-gives-record b is p = record { is = is; gives = rw suite-observed (passes-gives sh b p) }

  pub gives-record-passes : (b : List ℕ) → GivesRecord sh (suite_record sh) b → Passes sh b
  gives-record-passes b g =
      sym (failed-log sh b) ∙ gives_none (step sh b) (initial sh b) (suite_log sh) (initial sh b) 0 0 (rw suite-observed at g.gives)
