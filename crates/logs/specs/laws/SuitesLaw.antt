-- The suite of an accepted sheet: where its tests stand, and that their log is the suite's.
use Rattle.std.specs.Prelude.{◌*◌, ◌≤◌, ◌≡◌}
use Rattle.lists.specs.Proving.{arith, ℕ, refl, sym, ◌∙◌, ap, List, [], length, take}
use Rattle.std.proofs.Common.{append-nil, replicate}
use Rattle.std.proofs.lemmas.List.{length-replicate}
use Rattle.sheet.specs.Sheet.{Sheet}
use Rattle.sheet.specs.Tables.{tables_of}
use Rattle.sheet.specs.WellFormed.{WellFormed}
use Rattle.model.specs.Log.{suite_log, tests_log}
use Rattle.block.specs.Tabulated.{rule_of}
use Rattle.block.specs.Tabled.{ReadFrom}
use Rattle.block.specs.Logged.{observations, log_bytes}
use Rattle.block.specs.laws.TabledLaw.{rule-same}
use Rattle.block.specs.laws.LoggedLaw.{bytes-observed}
use Rattle.logs.specs.Tests.{tests_at, TestsAt}
use Rattle.logs.specs.Recorded.{Recorded}
use Rattle.logs.specs.Suites.{SuiteIn, Logged}
use Rattle.logs.specs.laws.SizeLaw.{log-bytes, log-low}
use Rattle.logs.specs.laws.TestsLaw.{tests-are, tests-at, tests-log}

-- bytes of the suite's log are that log
pub logged-bytes : {sh : Sheet} {log : List ℕ} {n : ℕ} → WellFormed sh → n ≤ length log → take n log ≡ log_bytes (suite_log sh) → Logged sh log n
unfolding observations
logged-bytes {sh} {log} {n} wf inside e =
    record {
      inside = inside;
      bytes = e;
      is = ap observations (e ∙ sym (append-nil (log_bytes (suite_log sh)))) ∙ bytes-observed (suite_log sh) [] (log-low sh wf) ∙ append-nil (suite_log sh);
    }

module _ {sh : Sheet} {s starts lengths m : List ℕ} {tests room : ℕ} (su : SuiteIn sh s starts lengths tests m room) where
  pub wf : WellFormed sh
  wf = su.tabled.formed

  pub suite : tests_at s starts lengths tests ≡ sh.tests
  suite = rw (su.starts-are, su.lengths-are) (tests-are sh wf su.bytes {tables = tables_of sh} refl su.many)

  -- its tests are where the tables say
  pub located : TestsAt (rule_of m) s starts lengths tests
  located = rw (su.starts-are, su.lengths-are) (tests-at sh wf (rule-same su.tabled) su.bytes {tables = tables_of sh} refl su.many)

  log_is : tests_log (rule_of m) (tests_at s starts lengths tests) ≡ suite_log sh
  log_is = rw (su.starts-are, su.lengths-are) (tests-log sh wf (rule-same su.tabled) su.bytes {tables = tables_of sh} refl su.many)

  -- there is room for their log, and it is the suite's
  pub roomy : length (log_bytes (tests_log (rule_of m) (tests_at s starts lengths tests))) ≤ room
  roomy = rw log_is su.fits

  pub logged : {old new : List ℕ} {n : ℕ} → Recorded old new n (log_bytes (tests_log (rule_of m) (tests_at s starts lengths tests))) → Logged sh new n
  logged re = logged-bytes wf re.inside (re.is ∙ ap log_bytes log_is)

-- ---- a sheet that was read

module _ {sh : Sheet} {s starts lengths m : List ℕ} {tests : ℕ} (rd : ReadFrom sh s starts lengths tests m) where
  suite-in : {room : ℕ} → length (log_bytes (suite_log sh)) ≤ room → SuiteIn sh s starts lengths tests m room
  suite-in l =
      record {
        tabled = rd.loads.tabled;
        bytes = rd.bytes;
        starts-are = rd.loads.starts-are;
        lengths-are = rd.loads.lengths-are;
        many = rd.many;
        fits = l;
      }

  -- with an array half as long again as the sheet, or as long as any suite's log
  pub suite-short : {room : ℕ} → 3 * length s ≤ 2 * room → SuiteIn sh s starts lengths tests m room
  suite-short l = suite-in (omega (arith, log-bytes sh, ap length rd.bytes))

  pub suite-long : {room : ℕ} → 24576 ≤ room → SuiteIn sh s starts lengths tests m room
  suite-long l = suite-in (omega (arith, log-bytes sh, ap length rd.bytes, rd.short))

-- an array of so many noughts is such a room
pub suite-blank : {sh : Sheet} {s starts lengths m : List ℕ} {tests : ℕ} (room : ℕ) → SuiteIn sh s starts lengths tests m room →
    SuiteIn sh s starts lengths tests m (length {A = ℕ} (replicate room 0))
suite-blank room su = rw (length-replicate {A = ℕ} room 0) su
