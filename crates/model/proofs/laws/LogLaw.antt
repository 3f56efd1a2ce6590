-- The log of a sheet's test suite: what a mutant that passes gives, where one that fails is wrong, how long it is.
use Prim.Native.Nat.{ℕ, zero, suc, ◌+◌, ◌-◌, ◌*◌, ◌≤◌}
use native.Mathlib.Omega.{arith}
use Rattle.std.specs.Prelude.{◌≡◌, Bool}
use Rattle.std.proofs.Math.Path.{refl}
use Rattle.std.proofs.Common.{sym, ◌∙◌}
use Rattle.std.proofs.Math.Bool.{true, false, cond}
use Rattle.std.proofs.Math.Option.{Option, none, some}
use mathlib.Core.List.{List, [], ◌∷◌, ◌++◌}
use borrow.Author.Tests.{eqb-true, eq-eqb, ne_eqb}
use Rattle.std.proofs.Math.Decide.{ℕ_discrete}
use Rattle.std.proofs.Math.Dec.{eqb}
use Rattle.std.proofs.Math.ListN.{length, length-append}
use Rattle.lists.specs.Lists.{maybe}
use Rattle.sheet.specs.Sheet.{Sheet}
use Rattle.sheet.specs.Encode.{row_bytes, start_bytes, quiet_bytes, press_bytes, test_bytes, size_bytes, machine_bytes, body, encode}
use Rattle.sheet.specs.WellFormed.{WellFormed}
use Rattle.lists.specs.laws.TestLaw.{never}
use Rattle.sheet.specs.laws.PartLaw.{presses-length}
use Rattle.model.specs.Machine.{Move, Pair}
use Rattle.model.specs.Mutant.{rule, later, step, initial, against}
use Rattle.model.specs.Suite.{wrong_from, wrong_in, Place, later_test, first_failed_in, first_failed_of, Passes}
use Rattle.model.specs.Log.{Observation, reset, seen, GivesFrom, GivesLog, failed_in, test_log, tests_log, suite_log}

abbrev place : ℕ → ℕ → Option Place
place t i = some (record { test = t; position = i })

same_place : {t u i j : ℕ} → t ≡ u → i ≡ j → place t i ≡ place u j
same_place e f = rw (e, f) refl

module _ (move : ℕ → ℕ → Move) (start : ℕ) where
  -- where no output of a log is wrong, the machine gives it
  pub none-gives : (l : List Observation) (s begun i : ℕ) → failed_in move start s begun i l ≡ none → GivesFrom move start s l
  unfolding GivesFrom failed_in
  none-gives [] s begun i e = tt
  none-gives (reset ∷ l) s begun i e = none-gives l start (suc begun) 0 e
  none-gives (seen x o ∷ l) s begun i e = go (eqb (move s x).output o) refl (none-gives l (move s x).target begun (suc i)) e
    where
      go : (c : Bool) → eqb (move s x).output o ≡ c →
          (failed_in move start (move s x).target begun (suc i) l ≡ none → GivesFrom move start (move s x).target l) →
          cond c (failed_in move start (move s x).target begun (suc i) l) (place (begun - 1) i) ≡ none →
          ((move s x).output ≡ o) × GivesFrom move start (move s x).target l
      go true ec h n = (eqb-true (move s x).output o ec, h n)
      go false ec h n = never (cc)

-- along a test, before a log on which neither the state nor the position matters
module _ (m : Pair) (start begun : ℕ) (l : List Observation) (rest : Option Place)
    (after : (q i : ℕ) → failed_in m.move start q begun i l ≡ rest) where
  abbrev at : ℕ → ℕ → Option Place
  at i j = place (begun - 1) (i + j)

  one_later : (i : ℕ) (w : Option ℕ) → maybe w rest (at (suc i)) ≡ maybe (later w) rest (at i)
  one_later i none = refl
  one_later i (some j) = same_place refl (omega arith)

  along-test : (xs : List ℕ) (s q i : ℕ) → failed_in m.move start q begun i (test_log m.rule s xs ++ l) ≡ maybe (wrong_from m s q xs) rest (at i)
  unfolding test_log failed_in wrong_from
  along-test [] s q i = after q i
  along-test (x ∷ xs) s q i = go (m.rule s x) (λ p. along-test xs p (m.move q x).target (suc i))
    where
      one : (o : ℕ) (w : Option ℕ) → Dec ((m.move q x).output ≡ o) → {r : Option Place} → r ≡ maybe w rest (at (suc i)) →
          cond (eqb (m.move q x).output o) r (place (begun - 1) i)
          ≡ maybe (cond (eqb o (m.move q x).output) (later w) (some zero)) rest (at i)
      one o w (yes same) h = rw (eq-eqb _ _ same, eq-eqb _ _ (sym same)) (h ∙ one_later i w)
      one o w (no other) h = rw (ne_eqb _ _ other, ne_eqb _ _ (λ z. other (sym z))) (same_place refl (omega arith))

      go : (o : Option Move) →
          ((p : ℕ) → failed_in m.move start (m.move q x).target begun (suc i) (test_log m.rule p xs ++ l)
          ≡ maybe (wrong_from m p (m.move q x).target xs) rest (at (suc i))) →
          failed_in m.move start q begun i (maybe o [] (λ r. seen x r.output ∷ test_log m.rule r.target xs) ++ l)
          ≡ maybe
          (maybe o none (λ r. cond (eqb r.output (m.move q x).output) (later (wrong_from m r.target (m.move q x).target xs)) (some zero)))
          rest (at i)
      go none h = after q i
      go (some r) h = one r.output (wrong_from m r.target (m.move q x).target xs) (ℕ_discrete (m.move q x).output r.output) (h r.target)

-- that many tests later
later_by : ℕ → Option Place → Option Place
later_by t none = none
later_by t (some f) = place (t + f.test) f.position

module _ (sh : Sheet) (b : List ℕ) where
  along-tests : (ts : List (List ℕ)) (q begun i : ℕ) →
      failed_in (step sh b) (initial sh b) q begun i (tests_log (rule sh) ts) ≡ later_by begun (first_failed_in sh b ts)
  unfolding failed_in tests_log first_failed_in wrong_in later_by
  along-tests [] q begun i = refl
  along-tests (t ∷ ts) q begun i =
      along-test (against sh b) (initial sh b) (suc begun) (tests_log (rule sh) ts) (later_by (suc begun) (first_failed_in sh b ts))
      (λ p j. along-tests ts p (suc begun) j) t 0 (initial sh b) 0
      ∙ go (wrong_from (against sh b) 0 (initial sh b) t) (first_failed_in sh b ts)
    where
      go : (w : Option ℕ) (o : Option Place) →
          maybe w (later_by (suc begun) o) (λ j. place (suc begun - 1) (0 + j))
          ≡ later_by begun (maybe w (later_test o) (place zero))
      go none none = refl
      go none (some f) = same_place (omega arith) refl
      go (some j) o = same_place (omega arith) (omega arith)

  -- the first failed test is where the mutant does not give the suite's log
  pub failed-log : failed_in (step sh b) (initial sh b) (initial sh b) 0 0 (suite_log sh) ≡ first_failed_of sh b
  unfolding suite_log first_failed_of later_by
  failed-log = along-tests sh.tests (initial sh b) 0 0 ∙ go (first_failed_in sh b sh.tests)
    where
      go : (o : Option Place) → later_by 0 o ≡ o
      go none = refl
      go (some f) = same_place (omega arith) refl

  -- a mutant that passes the suite gives that log
  pub passes-gives : Passes sh b → GivesLog sh b (suite_log sh)
  passes-gives e = none-gives (step sh b) (initial sh b) (suite_log sh) (initial sh b) 0 0 (failed-log ∙ e)

-- ---- how long it is

module _ (rule : ℕ → ℕ → Option Move) where
  test_short : (xs : List ℕ) (s : ℕ) → length (test_log rule s xs) ≤ length xs
  unfolding test_log
  test_short [] s = omega arith
  test_short (x ∷ xs) s = go (rule s x) (test_short xs)
    where
      go : (o : Option Move) → ((t : ℕ) → length (test_log rule t xs) ≤ length xs) →
          length (maybe o [] (λ r. seen x r.output ∷ test_log rule r.target xs)) ≤ suc (length xs)
      go none h = omega arith
      go (some r) h = omega (arith, h r.target)

  -- a test has a byte, and two for each input
  tests-short : (ts : List (List ℕ)) → 2 * length (tests_log rule ts) ≤ length (test_bytes ts) + length ts
  unfolding tests_log test_bytes
  tests-short [] = omega arith
  tests-short (t ∷ ts) =
      let ih = tests-short ts in
      omega (arith, length-append (test_log rule 0 t) (tests_log rule ts), length-append (press_bytes t) (test_bytes ts), presses-length t, test_short t 0)

tests-few : (ts : List (List ℕ)) → length ts ≤ length (test_bytes ts)
unfolding test_bytes
tests-few [] = omega arith
tests-few (t ∷ ts) = let ih = tests-few ts in omega (arith, length-append (press_bytes t) (test_bytes ts))

module _ (sh : Sheet) where
  tests-inside : 5 + length (test_bytes sh.tests) ≤ length (encode sh)
  unfolding encode body machine_bytes size_bytes
  tests-inside =
      let rows = quiet_bytes sh.quiet ++ (row_bytes 2 sh.rules ++ (row_bytes 3 sh.faults ++ start_bytes sh.starts)) in
      let e = length-append (rows ++ test_bytes sh.tests) (6 ∷ []) in
      let f = length-append rows (test_bytes sh.tests) in
      omega arith

  -- at most as many observations as the sheet has bytes; and not many in any sheet
  pub log-below : length (suite_log sh) ≤ length (encode sh)
  unfolding suite_log
  log-below = omega (arith, tests-inside, tests-short (rule sh) sh.tests, tests-few sh.tests)

  pub log-most : WellFormed sh → length (encode sh) ≤ 16384 → length (suite_log sh) ≤ 8448
  unfolding suite_log
  log-most wf l = omega (arith, tests-inside, tests-short (rule sh) sh.tests, wf.few-tests)
