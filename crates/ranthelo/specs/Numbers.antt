-- The answers as numbers: a refusal's number and place first (0 and 0 where there is none), then the values, 0 on a refusal (but
-- merging tells the sheet it concerns).
use Rattle.std.specs.Prelude.{Result as Answer, Option as Maybe, Ok, Err, Some, None}
use Rattle.std.specs.Prelude.{ℕ, Bool, true, false, cond, List, [], ◌∷◌, eqb, replicate}
use Rattle.sheet.specs.declared.Refusal.{Refusal}
use Rattle.sheet.specs.declared.Summary.{Summary}
use Rattle.sheet.specs.declared.Span.{Span}
use Rattle.machine.specs.Differences.{Difference}
use Rattle.logs.specs.declared.walk.Wrong.{Wrong}
use Rattle.mutation.specs.declared.Used.{Used}
use Rattle.mutation.specs.declared.Tested.{Tested}
use Rattle.records.specs.declared.Recorded.{Recorded}
use Rattle.walking.specs.declared.Place.{Place}
use Rattle.walking.specs.declared.Place.TheVariants as place
use Rattle.making.specs.declared.Made.{Made}
use Rattle.merging.specs.declared.Unmerged.{Unmerged}
use Rattle.merging.specs.declared.Concerns.{Concerns}
use Rattle.merging.specs.declared.Concerns.TheVariants as concerns

-- the numbers of a refusal: its number, its place, and so many noughts
abbrev pub refused_numbers : ℕ → Refusal → List ℕ
refused_numbers n why = why.number ∷ why.place ∷ replicate n 0

-- number, place; states, inputs, outputs (01: n, k, m), and how many RULEs, FAULTs, TESTs and open pairs
abbrev pub read_numbers : Answer Summary Refusal → List ℕ
read_numbers (Ok z) = 0 ∷ 0 ∷ z.states ∷ z.inputs ∷ z.outputs ∷ z.rules ∷ z.faults ∷ z.tests ∷ z.suspects ∷ []
read_numbers (Err why) = refused_numbers 7 why

-- number, place; start and length of the part
abbrev pub part_numbers : Answer Span Refusal → List ℕ
part_numbers (Ok span) = 0 ∷ 0 ∷ span.start ∷ span.length ∷ []
part_numbers (Err why) = refused_numbers 2 why

-- number, place; the sheet's length
abbrev pub written_numbers : Answer ℕ Refusal → List ℕ
written_numbers (Ok length) = 0 ∷ 0 ∷ length ∷ []
written_numbers (Err why) = refused_numbers 1 why

-- number, place; how many slots are used, and the set of them
abbrev pub ran_numbers : Answer Used Refusal → List ℕ
ran_numbers (Ok u) = 0 ∷ 0 ∷ u.number ∷ u.set ∷ []
ran_numbers (Err why) = refused_numbers 2 why

abbrev pub tested_numbers : Maybe Wrong → Used → List ℕ
tested_numbers None u = 0 ∷ 0 ∷ 0 ∷ 0 ∷ 0 ∷ u.number ∷ u.set ∷ []
tested_numbers (Some w) u = 0 ∷ 0 ∷ 1 ∷ w.test ∷ w.position ∷ u.number ∷ u.set ∷ []

-- number, place; 1 if a test fails, that test and the position of its first wrong output; how many slots are used, and the set of them
abbrev pub failed_numbers : Answer Tested Refusal → List ℕ
failed_numbers (Ok t) = tested_numbers t.failed t.used
failed_numbers (Err why) = refused_numbers 5 why

-- number, place; 1 if the mutant differs, and the length of the sequence
abbrev pub compared_numbers : Answer Difference Refusal → List ℕ
compared_numbers (Ok None) = 0 ∷ 0 ∷ 0 ∷ 0 ∷ []
compared_numbers (Ok (Some d)) = 0 ∷ 0 ∷ 1 ∷ d ∷ []
compared_numbers (Err why) = refused_numbers 2 why

-- number, place; 1 if there is a survivor, and the length of its sequence
abbrev pub judged_numbers : Answer (Maybe ℕ) Refusal → List ℕ
judged_numbers r = compared_numbers r

-- number, place; 1 if a mutant is taken (0: the end), 1 if it is nonconforming, and the length of its sequence
abbrev pub taken_numbers : Answer (Maybe Difference) Refusal → List ℕ
taken_numbers (Ok None) = 0 ∷ 0 ∷ 0 ∷ 0 ∷ 0 ∷ []
taken_numbers (Ok (Some None)) = 0 ∷ 0 ∷ 1 ∷ 0 ∷ 0 ∷ []
taken_numbers (Ok (Some (Some d))) = 0 ∷ 0 ∷ 1 ∷ 1 ∷ d ∷ []
taken_numbers (Err why) = refused_numbers 3 why

-- a walk's place: 0 the start, 1 the last mutant taken, any other number the end
abbrev pub place_of : ℕ → Place
place_of p = cond (eqb p 0) place.Start (cond (eqb p 1) place.Last place.End)

-- number, place; the made sheet's length, and how many tests were appended
abbrev pub made_numbers : Answer Made Refusal → List ℕ
made_numbers (Ok m) = 0 ∷ 0 ∷ m.length ∷ m.appended ∷ []
made_numbers (Err why) = refused_numbers 2 why

-- number, place
abbrev pub tried_numbers : Answer (Unit {0}) Refusal → List ℕ
tried_numbers (Ok u) = 0 ∷ 0 ∷ []
tried_numbers (Err why) = refused_numbers 0 why

abbrev pub bit : Bool → ℕ
bit true = 1
bit false = 0

abbrev pub differs_numbers : Maybe ℕ → Bool → List ℕ
differs_numbers None given = 0 ∷ 0 ∷ 0 ∷ 0 ∷ bit given ∷ []
differs_numbers (Some at) given = 0 ∷ 0 ∷ 1 ∷ at ∷ bit given ∷ []

-- number, place; 1 if a SEEN differs from the specification, its place in the record; 1 if some mutant gives the record
abbrev pub recorded_numbers : Answer Recorded Refusal → List ℕ
recorded_numbers (Ok r) = differs_numbers r.differs r.given
recorded_numbers (Err why) = refused_numbers 3 why

-- number, place; 1 if some mutant gives the record, 1 if it is nonconforming, and the length of its sequence
abbrev pub explained_numbers : Answer (Maybe Difference) Refusal → List ℕ
explained_numbers r = taken_numbers r

-- the sheet that a refusal concerns: 1 or 2 where reading one of both refuses, else 0
abbrev pub concern : Concerns → ℕ
concern concerns.Merged = 0
concern concerns.First = 1
concern concerns.Second = 2

-- number, place; the sheet that a refusal on reading concerns, and the merged sheet's length
abbrev pub merged_numbers : Answer ℕ Unmerged → List ℕ
merged_numbers (Ok length) = 0 ∷ 0 ∷ 0 ∷ length ∷ []
merged_numbers (Err u) = u.why.number ∷ u.why.place ∷ concern u.concerns ∷ 0 ∷ []
