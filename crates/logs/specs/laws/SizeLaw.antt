-- The bytes of a suite's log: how many they are, and that inputs and outputs are below 16.
use Rattle.std.specs.Prelude.{◌+◌, ◌*◌, ◌≤◌, ◌≡◌, ◌∷◌, ◌++◌}
use Rattle.lists.specs.Proving.{arith, ℕ, suc, refl, Option, some, none, List, [], length, length-append}
use Rattle.lists.specs.Lists.{maybe, All, joined}
use Rattle.lists.specs.laws.AllLaw.{all_append}
use Rattle.sheet.specs.Sheet.{Sheet}
use Rattle.sheet.specs.Encode.{row_bytes, start_bytes, quiet_bytes, press_bytes, test_bytes, size_bytes, machine_bytes, body, encode}
use Rattle.sheet.specs.WellFormed.{WellFormed}
use Rattle.sheet.specs.laws.PartLaw.{presses-length}
use Rattle.model.specs.Machine.{Move}
use Rattle.model.specs.Mutant.{rule}
use Rattle.model.specs.Log.{seen, test_log, tests_log, suite_log}
use Rattle.model.proofs.laws.StaysLaw.{rule-in}
use Rattle.block.specs.Logged.{log_bytes, LowSeen}
use Rattle.block.specs.laws.LoggedLaw.{bytes-append}

module _ (rule : ℕ → ℕ → Option Move) where
  test-bytes : (xs : List ℕ) (s : ℕ) → length (log_bytes (test_log rule s xs)) ≤ 3 * length xs
  unfolding test_log log_bytes joined
  test-bytes [] s = omega arith
  test-bytes (x ∷ xs) s = go (rule s x) (test-bytes xs)
    where
      go : (o : Option Move) → ((t : ℕ) → length (log_bytes (test_log rule t xs)) ≤ 3 * length xs) →
          length (log_bytes (maybe o [] (λ r. seen x r.output ∷ test_log rule r.target xs))) ≤ 3 * suc (length xs)
      go none h = omega arith
      go (some r) h = omega (arith, h r.target)

  -- a test has a byte, and two for each input
  tests-bytes : (ts : List (List ℕ)) → 2 * length (log_bytes (tests_log rule ts)) ≤ 3 * length (test_bytes ts)
  unfolding tests_log test_bytes log_bytes joined
  tests-bytes [] = omega arith
  tests-bytes (t ∷ ts) =
      let ih = tests-bytes ts in
      let e = bytes-append (test_log rule 0 t) (tests_log rule ts) in
      omega (arith, rest t ts, length-append (press_bytes t) (test_bytes ts), presses-length t, test-bytes t 0)
    where
      rest : (t : List ℕ) (ts : List (List ℕ)) → length (log_bytes (test_log rule 0 t ++ tests_log rule ts)) ≡ length (log_bytes (test_log rule 0 t)) + length (log_bytes (tests_log rule ts))
      rest t ts = rw (bytes-append (test_log rule 0 t) (tests_log rule ts)) (length-append (log_bytes (test_log rule 0 t)) (log_bytes (tests_log rule ts)))

module _ (sh : Sheet) where
  tests-inside : 5 + length (test_bytes sh.tests) ≤ length (encode sh)
  unfolding encode body machine_bytes size_bytes
  tests-inside =
      let rows = quiet_bytes sh.quiet ++ (row_bytes 2 sh.rules ++ (row_bytes 3 sh.faults ++ start_bytes sh.starts)) in
      let e = length-append (rows ++ test_bytes sh.tests) (6 ∷ []) in
      let f = length-append rows (test_bytes sh.tests) in
      omega arith

  -- at most three for each two bytes of the sheet
  pub log-bytes : 2 * length (log_bytes (suite_log sh)) ≤ 3 * length (encode sh)
  unfolding suite_log
  log-bytes = omega (arith, tests-inside, tests-bytes (rule sh) sh.tests)

  module _ (wf : WellFormed sh) where
    test_low : (xs : List ℕ) (s : ℕ) → All LowSeen (test_log (rule sh) s xs)
    unfolding test_log
    test_low [] s = tt
    test_low (x ∷ xs) s = go (rule sh s x) refl (test_low xs)
      where
        go : (o : Option Move) → rule sh s x ≡ o → ((q : ℕ) → All LowSeen (test_log (rule sh) q xs)) →
            All LowSeen (maybe o [] (λ r. seen x r.output ∷ test_log (rule sh) r.target xs))
        go none e h = tt
        go (some r) e h =
            let i = rule-in sh wf s x r e in
            ((omega (arith, i.input, wf.size.inputs.few), omega (arith, i.move.output, wf.size.outputs.few)), h r.target)

    tests-low : (ts : List (List ℕ)) → All LowSeen (tests_log (rule sh) ts)
    unfolding tests_log
    tests-low [] = tt
    tests-low (xs ∷ ts) = (tt, all_append LowSeen (test_log (rule sh) 0 xs) (tests_log (rule sh) ts) (test_low xs 0) (tests-low ts))

    pub log-low : All LowSeen (suite_log sh)
    unfolding suite_log
    log-low = tests-low sh.tests
