-- A sheet whose suite grows.
use Rattle.std.specs.Prelude.{Result as Answer, Ok, Err}
use Rattle.std.specs.Prelude.{ℕ, ◌+◌, ◌-◌, ◌*◌, ◌≤◌, ◌<◌, ◌≡◌, Bool, false, cond, List, eqb, leb, length, take}
use Rattle.sheet.specs.Sheet.{Sheet}
use Rattle.sheet.specs.Encode.{body}
use Rattle.sheet.specs.Reading.{Result, accepted, refused}
use Rattle.sheet.specs.WellFormed.{TestIn}
use Rattle.model.specs.Mutant.{rule}
use Rattle.model.specs.Log.{suite_log}
use Rattle.model.specs.Making.{Grown, grow_from}
use Rattle.block.specs.Logged.{log_bytes}
use Rattle.logs.specs.Tests.{Defined}
use Rattle.search.specs.Search.{ForSheet}
use Rattle.sheet.specs.declared.Refusal.{Refusal}
use Rattle.sheet.specs.Tables.{refusal_of}
use Rattle.making.specs.declared.grow.Growth.{Growth}

-- the bytes before `end` are all of the sheet but its END, the block holds its tables, and the first n bytes of the log are its suite's
pub record Held (sh : Sheet) (m bytes log : List ℕ) (end n : ℕ) : Type 0 where
  pub suite : ForSheet sh m (take n log)
  pub inside : n ≤ length log
  pub recorded : take n log ≡ log_bytes (suite_log sh)
  pub spelled : take end bytes ≡ body sh
  pub short : end < 16384
  pub long : length bytes ≡ 16384
  pub log-long : length log ≡ 24576

-- the test xs may be appended, and there is room for it
pub record Fits (sh : Sheet) (xs : List ℕ) (end : ℕ) : Type 0 where
  pub test : TestIn sh.rules xs
  pub defined : Defined (rule sh) 0 xs
  pub few : length sh.tests < 256
  pub short : end + 1 + 2 * length xs < 16384

-- what making is to answer is what becomes of this sheet, with room for so many tests more and so many appended
pub record Growing (result : Result Grown) (sh : Sheet) (m bytes log : List ℕ) (end n room appended : ℕ) : Type 0 where
  pub leads : result ≡ grow_from room appended sh
  pub tests : length sh.tests + room ≡ 256
  pub few : appended + room ≤ 256
  pub held : Held sh m bytes log end n

abbrev pub GrowingIn : Result Grown → Sheet → List ℕ → List ℕ → List ℕ → Growth → Type 0
GrowingIn result sh m bytes log g = Growing result sh m bytes log g.end g.observed g.room g.appended

-- the made sheet, but for its END
pub record Complete (result : Result Grown) (bytes : List ℕ) (end appended : ℕ) : Type 0 where
  pub sheet : Sheet
  pub is : result ≡ accepted (record { sheet = sheet; appended = appended })
  pub spelled : take end bytes ≡ body sheet
  pub short : end < 16384
  pub long : length bytes ≡ 16384

-- the suite is complete; or the next test does not fit
abbrev pub Grows : Result Grown → List ℕ → Answer Growth Refusal → Type 0
Grows result bytes (Ok g) = Complete result bytes g.end g.appended
Grows result bytes (Err why) = (result ≡ refused 18 0) × (why ≡ refusal_of 18 0)

-- whether a test of d inputs fits
abbrev pub fitting : ℕ → ℕ → ℕ → Bool
fitting room end d = cond (eqb room 0) false (leb (end + 2 + 2 * d) 16384)

-- what becomes of the numbers where a test is appended
abbrev pub longer_by : Growth → ℕ → ℕ → Growth
longer_by g d observed = record { end = g.end + 1 + 2 * d; observed = observed; room = g.room - 1; appended = g.appended + 1 }
