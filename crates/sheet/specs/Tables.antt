-- What the code answers: 01's numbers and values for each case, and the tables of a sheet.
use Rattle.std.specs.Prelude.{ℕ, suc, ◌/◌, ◌%◌, Bool, false, cond, List, [], ◌∷◌, map, ltb, length, get_or, replicate, Ok, Err}
use Rattle.std.specs.Prelude.{Result as Answer}
use Rattle.sheet.specs.declared.Row.{Row}
use Rattle.sheet.specs.declared.Refusal.{Refusal}
use Rattle.sheet.specs.declared.Summary.{Summary}
use Rattle.sheet.specs.declared.Span.{Span}
pub use Rattle.sheet.specs.declared.Tables.{Tables}
use Rattle.lists.specs.Lists.{maybe, is_none, first, up_to}
use Rattle.sheet.specs.Sheet.{Sheet, is_at, rows_at, rule_at, choices_at, wakings, waking_choices}
use Rattle.sheet.specs.Reading.{Result, accepted, refused, Reading, summary_of}
use Rattle.sheet.specs.Part.{span_of}

-- a refusal with its number and place
abbrev pub refusal_of : ℕ → ℕ → Refusal
refusal_of number place = record { number = number; place = place }

-- what an operation answers: a value, or why it refuses
abbrev pub answer_by : {A B : Type 0} → (A → B) → Result A → Answer B Refusal
answer_by f (accepted a) = Ok (f a)
answer_by f (refused number place) = Err (refusal_of number place)

abbrev pub read_answer : Reading → Answer Summary Refusal
read_answer r = answer_by summary_of r

abbrev pub part_answer : Result Span → Answer Span Refusal
part_answer r = answer_by (λ span. span) r

-- f 0, f 1, .., f 255
abbrev pub table : (ℕ → ℕ) → List ℕ
table f = map f (up_to 256)

-- g at each state and input, at state * 16 + input
abbrev pub by_pair : (ℕ → ℕ → ℕ) → List ℕ
by_pair g = table (λ i. g (i / 16) (i % 16))

-- the index of the first row at a state and an input
unfoldable pub first_at : List Row → ℕ → ℕ → ℕ
first_at [] s x = 0
first_at (r ∷ rs) s x = let rest = suc (first_at rs s x) in cond (is_at r s x) 0 rest

-- 0 where there is none
unfoldable pub first_fault : List Row → ℕ → ℕ → ℕ
first_fault faults s x = cond (is_none (first (rows_at faults s x))) 0 (first_at faults s x)

abbrev pub no_row : Row
no_row = record { source = 0; input = 0; output = 0; target = 0 }

-- by pair for every state and input below 16, also beyond the sheet's own; by fault, by choice of a waking state and by test, with 0
-- past the last; how many waking states there are, and whether the sheet is quiet
unfoldable pub tables_of : Sheet → Tables
tables_of sh =
    record {
      output = by_pair (λ s x. maybe (rule_at sh.rules s x) 255 (λ r. r.output));
      target = by_pair (λ s x. maybe (rule_at sh.rules s x) 255 (λ r. r.target));
      choices = by_pair (choices_at sh);
      first = by_pair (first_fault sh.faults);
      mutated = table (λ i. (get_or sh.faults i no_row).output);
      diverted = table (λ i. (get_or sh.faults i no_row).target);
      wakings = map (λ i. get_or (wakings sh) i 0) (up_to 16);
      waking = waking_choices sh;
      quiet = sh.quiet;
      starts = table (λ i. cond (ltb i (length sh.tests)) (span_of sh i).start 0);
      lengths = table (λ i. length (get_or sh.tests i []));
    }

-- the tables handed back with a refusal
unfoldable pub blank_tables : Tables
blank_tables =
    record {
      output = replicate 256 255;
      target = replicate 256 255;
      choices = replicate 256 0;
      first = replicate 256 0;
      mutated = replicate 256 0;
      diverted = replicate 256 0;
      wakings = replicate 16 0;
      waking = 0;
      quiet = false;
      starts = replicate 256 0;
      lengths = replicate 256 0;
    }

-- what a sheet is read into: tables of noughts
abbrev pub nought_tables : Tables
nought_tables = record {
  output = replicate 256 0;
  target = replicate 256 0;
  choices = replicate 256 0;
  first = replicate 256 0;
  mutated = replicate 256 0;
  diverted = replicate 256 0;
  wakings = replicate 16 0;
  waking = 0;
  quiet = false;
  starts = replicate 256 0;
  lengths = replicate 256 0;
}

-- the tables after a sheet was read into them: its own, or those before where it is refused
abbrev pub read_into : Reading → Tables → Tables
read_into (accepted sh) before = tables_of sh
read_into (refused number place) before = before

abbrev pub loaded_of : Reading → Tables
loaded_of (accepted sh) = tables_of sh
loaded_of (refused number place) = blank_tables
