-- One test more: the sheet's bytes and its suite's log with it.
use Prim.Native.Nat.{ℕ, ◌+◌, ◌*◌, ◌≤◌}
use native.Mathlib.Omega.{arith}
use mathlib.Core.Path.{◌≡◌, refl, sym, ◌∙◌, ap}
use mathlib.Core.Option.{Option}
use mathlib.Core.List.{List, [], ◌∷◌, ◌++◌, append_assoc, append-nil}
use lib.ListN.{length, take, drop, length-append, take-append-drop}
use lib.Seq.{append_snoc, length-take-le}
use Rattle.sheet.specs.Sheet.{Sheet}
use Rattle.sheet.specs.Encode.{press_bytes, test_bytes, body, encode}
use Rattle.sheet.specs.WellFormed.{WellFormed}
use Rattle.sheet.specs.laws.PartLaw.{presses-length}
use Rattle.writing.specs.words.Spelled.{Spelled}
use Rattle.model.specs.Machine.{Move}
use Rattle.model.specs.Mutant.{rule}
use Rattle.model.specs.Log.{Observation, reset, test_log, tests_log, suite_log}
use Rattle.model.specs.Longer.{with_test}
use Rattle.model.proofs.laws.LongerLaw.{rule-longer, body-longer, encode-longer, well-formed-longer}
use Rattle.block.specs.Logged.{log_bytes}
use Rattle.block.specs.laws.LoggedLaw.{bytes-append}
use Rattle.block.specs.Tabulated.{rule_of}
use Rattle.block.specs.laws.TabledLaw.{rule-same}
use Rattle.logs.specs.Tests.{inputs_at, TestAt}
use Rattle.logs.specs.Recorded.{Written}
use Rattle.logs.specs.laws.TestsLaw.{inputs-at, rules-low}
use Rattle.logs.specs.laws.SizeLaw.{log-bytes}
use Rattle.logs.specs.laws.SuitesLaw.{logged-bytes}
use Rattle.sweep.specs.laws.GrowingLaw.{tabled-longer}
use Rattle.making.specs.words.Growing.{Held, Fits}

-- the log of one list of tests after another
tests-both : (r : ℕ → ℕ → Option Move) (ts us : List (List ℕ)) → tests_log r (ts ++ us) ≡ tests_log r ts ++ tests_log r us
unfolding tests_log
tests-both r [] us = refl
tests-both r (t ∷ ts) us = rw (tests-both r ts us) (ap (λ (l : List Observation). reset ∷ l) (sym (append_assoc (test_log r 0 t) (tests_log r ts) (tests_log r us))))

-- the log of a suite with one test more
pub suite-longer : (sh : Sheet) (xs : List ℕ) → suite_log (with_test sh xs) ≡ suite_log sh ++ (reset ∷ test_log (rule sh) 0 xs)
unfolding suite_log tests_log
suite-longer sh xs =
    rw (rule-longer sh (sh.tests ++ xs ∷ []), tests-both (rule sh) sh.tests (xs ∷ []), append-nil (test_log (rule sh) 0 xs)) refl

-- its bytes
body_more : (sh : Sheet) (xs : List ℕ) → body (with_test sh xs) ≡ body sh ++ (4 ∷ press_bytes xs)
unfolding test_bytes
body_more sh xs = body-longer sh (xs ∷ []) ∙ ap (λ (l : List ℕ). body sh ++ (4 ∷ l)) (append-nil (press_bytes xs))

-- a sheet is its body and END
pub encode-long : (sh : Sheet) → length (encode sh) ≡ length (body sh) + 1
unfolding encode
encode-long sh = length-append (body sh) (6 ∷ [])

module _ {sh : Sheet} {m bytes log : List ℕ} {end n : ℕ} (he : Held sh m bytes log end n) where
  pub body-length : length (body sh) ≡ end
  body-length = sym (ap length he.spelled) ∙ length-take-le end bytes (omega (arith, he.short, he.long))

  log-length : length (log_bytes (suite_log sh)) ≡ n
  log-length = sym (ap length he.recorded) ∙ length-take-le n log he.inside

  module _ {xs : List ℕ} (fi : Fits sh xs end) where
    formed : WellFormed (with_test sh xs)
    formed = well-formed-longer sh xs he.suite.tabled.formed fi.few fi.test

    -- there is room for it
    pub spell-asks : end + length (4 ∷ press_bytes xs) ≤ length bytes
    spell-asks = omega (arith, fi.short, he.long, presses-length xs)

    module _ {bytes' : List ℕ} {to : ℕ} (sp : Spelled bytes bytes' end to (4 ∷ press_bytes xs)) where
      ends : to ≡ end + 1 + 2 * length xs
      ends = omega (arith, sp.many, presses-length xs)

      -- its inputs stand where they were spelled
      inputs-there : inputs_at bytes' (end + 1) (length xs) ≡ xs
      inputs-there =
          let front = length-append (take end bytes) (4 ∷ []) ∙ ap (λ (k : ℕ). k + 1) (length-take-le end bytes (omega (arith, he.short, he.long))) in
          let parts : bytes' ≡ (take end bytes ++ 4 ∷ []) ++ (press_bytes xs ++ drop to bytes') =
          sym (take-append-drop to bytes') ∙ ap (λ (l : List ℕ). l ++ drop to bytes') sp.front ∙ append_assoc (take end bytes) (4 ∷ press_bytes xs) (drop to bytes')
          ∙ sym (append_snoc (take end bytes) 4 (press_bytes xs ++ drop to bytes')) in
          ap (λ (l : List ℕ). inputs_at l (end + 1) (length xs)) parts ∙ inputs-at (take end bytes ++ 4 ∷ []) xs (drop to bytes') (end + 1) front

      pub test_at : TestAt (rule_of m) bytes' (end + 1) (length xs)
      test_at =
          rw (rule-same he.suite.tabled)
          (record {
            low = rules-low sh he.suite.tabled.formed;
            inside = omega (arith, fi.short, he.long, sp.long);
            defined = rw inputs-there fi.defined;
          })

      -- the bytes of the longer log
      bytes-more : log_bytes (suite_log (with_test sh xs)) ≡ log_bytes (suite_log sh) ++ log_bytes (reset ∷ test_log (rule sh) 0 xs)
      bytes-more = ap log_bytes (suite-longer sh xs) ∙ bytes-append (suite_log sh) (reset ∷ test_log (rule sh) 0 xs)

      pub log-room : n + length (log_bytes (reset ∷ test_log (rule_of m) 0 (inputs_at bytes' (end + 1) (length xs)))) ≤ length log
      log-room =
          let most = log-bytes (with_test sh xs) in
          let short = encode-longer sh xs in
          let long = ap length bytes-more ∙ length-append (log_bytes (suite_log sh)) (log_bytes (reset ∷ test_log (rule sh) 0 xs)) in
          rw (inputs-there, rule-same he.suite.tabled) (omega (arith, most, short, encode-long sh, body-length, fi.short, long, log-length, he.log-long))

      pub appended : {log' : List ℕ} {r : ℕ} → Written log log' n r (log_bytes (reset ∷ test_log (rule_of m) 0 (inputs_at bytes' (end + 1) (length xs)))) [] →
          Held (with_test sh xs) m bytes' log' (end + 1 + 2 * length xs) r
      appended {log'} {r} w =
          let inside : r ≤ length log' = omega (arith, w.room) in
          let recorded : take r log' ≡ log_bytes (suite_log (with_test sh xs)) =
          sym (append-nil (take r log')) ∙ w.is
          ∙ rw (inputs-there, rule-same he.suite.tabled) (ap (λ (l : List ℕ). l ++ log_bytes (reset ∷ test_log (rule sh) 0 xs)) he.recorded)
          ∙ sym bytes-more in
          record {
            suite = record { tabled = tabled-longer (sh.tests ++ xs ∷ []) formed he.suite.tabled; suite = (logged-bytes formed inside recorded).is };
            inside = inside;
            recorded = recorded;
            spelled = rw (← ends) (sp.front ∙ ap (λ (l : List ℕ). l ++ (4 ∷ press_bytes xs)) he.spelled ∙ sym (body_more sh xs));
            short = fi.short;
            long = sp.long ∙ he.long;
            log-long = w.long ∙ he.log-long;
          }
