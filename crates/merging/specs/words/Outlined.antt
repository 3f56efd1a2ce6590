-- What merging looks at in two sheets.
use Rattle.std.specs.Prelude.{Result as Answer}
use Rattle.std.specs.Prelude.{Ok, Err, ℕ, zero, suc, ◌+◌, ◌*◌, ◌≤◌, ◌≡◌, Bool, ◌||◌, cond, List, [], ◌∷◌, ◌++◌, ltb, length, get_or}
use Rattle.lists.specs.Lists.{count, overlay}
use Rattle.sheet.specs.declared.Refusal.{Refusal}
use Rattle.sheet.specs.declared.Summary.{Summary}
use Rattle.sheet.specs.Sheet.{Sheet, open_pairs}
use Rattle.sheet.specs.Encode.{size_bytes, quiet_bytes, row_bytes, encode}
use Rattle.sheet.specs.Reading.{Result, accepted, refused, Reading, summary_of}
use Rattle.sheet.specs.WellFormed.{WellFormed}
use Rattle.sheet.specs.Tables.{refusal_of, answer_by}
use Rattle.sheet.specs.words.Tabled.{place_of}
use Rattle.renaming.specs.Merging.{merge_of}
use Rattle.merging.specs.declared.Concerns.{Concerns}
use Rattle.merging.specs.declared.Unmerged.{Unmerged}
use Rattle.reading.specs.Layout.{layout_of}
use Rattle.merging.specs.declared.outline.Outline.{Outline}
use Rattle.merging.specs.declared.join.Parts.{Parts}
use Rattle.merging.specs.Answers.{unmerged_by, merged_writes}

-- what reading one of the sheets answers
abbrev pub survey_answer : Concerns → Reading → Answer Summary Unmerged
survey_answer which (accepted sh) = Ok (summary_of sh)
survey_answer which (refused number place) = Err (unmerged_by which number place)

-- SIZE, QUIET and the RULEs
abbrev pub head_bytes : Sheet → List ℕ
head_bytes sh = size_bytes sh.size ++ (quiet_bytes sh.quiet ++ row_bytes 2 sh.rules)

-- what is known of an accepted sheet
pub record Laid (sh : Sheet) (o : Outline) : Type 0 where
  pub formed : WellFormed sh
  pub short : length o.sheet.now ≤ 16384
  pub bytes : o.sheet.now ≡ encode sh
  pub laid : o.layout ≡ layout_of sh
  pub many : o.count ≡ length sh.tests

-- by the numbers of choices in two sheets: a pair is open in one of them; how many are at a state, and at the states below s
abbrev pub either_open : List ℕ → List ℕ → ℕ → ℕ → Bool
either_open choices others s x = ltb 1 (get_or choices (place_of s x) 0) || ltb 1 (get_or others (place_of s x) 0)

unfoldable pub open_both : List ℕ → List ℕ → ℕ → ℕ → ℕ
open_both choices others inputs zero = 0
open_both choices others inputs (suc s) = open_both choices others inputs s + count (either_open choices others s) inputs

-- the first limit that is passed refuses: so many FAULTs, tests, open pairs, bytes
abbrev pub limit_by : Bool → Bool → Bool → Answer (Unit {0}) Refusal
limit_by full slots long = cond full (Err (refusal_of 8 0)) (cond slots (Err (refusal_of 12 0)) (cond long (Err (refusal_of 1 0)) (Ok tt)))

abbrev pub limit_answer : ℕ → ℕ → ℕ → ℕ → Answer (Unit {0}) Refusal
limit_answer faults tests slots long = limit_by (ltb 256 faults || ltb 256 tests) (ltb 32 slots) (ltb 16384 long)

-- how many bytes parts are, with END
abbrev pub parts_length : Parts → ℕ
parts_length p = length p.head.now + length p.faults.now + length p.starts.now + length p.tests.now + length p.more.now + 1

-- parts of which none is longer than a sheet
pub record Short (p : Parts) : Type 0 where
  pub head-short : length p.head.now ≤ 16384
  pub faults-short : length p.faults.now ≤ 16384
  pub starts-short : length p.starts.now ≤ 16384
  pub tests-short : length p.tests.now ≤ 16384
  pub more-short : length p.more.now ≤ 16384

-- the parts of a sheet's bytes, and what its limits ask of it
pub record Pieces (m : Sheet) (p : Parts) (count open-pairs : ℕ) : Type 0 where
  pub bytes : encode m ≡ p.head.now ++ (p.faults.now ++ (p.starts.now ++ (p.tests.now ++ (p.more.now ++ 6 ∷ []))))
  pub many-faults : length p.faults.now ≡ 5 * length m.faults
  pub many-starts : length p.starts.now ≡ 2 * length m.starts
  pub many-tests : count ≡ length m.tests
  pub open-are : open-pairs ≡ open_pairs m

-- an answer, and what it leaves in the buffer
pub record Joins (result : Result Sheet) (r : Answer ℕ Refusal) (old new : List ℕ) : Type 0 where
  pub answer : r ≡ answer_by (λ m. length (encode m)) result
  pub bytes : new ≡ overlay (merged_writes (merge_of result)) old
