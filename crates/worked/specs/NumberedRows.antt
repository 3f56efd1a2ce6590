-- 02, Point 12: sheets in first-reached form, as a program of few lines in another language gives them.
use Rattle.std.specs.Prelude.{ℕ, ◌≡◌, refl, List, [], ◌∷◌, map}
use Rattle.std.proofs.Common.{ap}
use Rattle.sheet.specs.Sheet.{Sheet}
use Rattle.sheet.specs.Reading.{Result, accepted, refused, reading}
use Rattle.sheet.specs.Encode.{body, encode}
use Rattle.sheet.specs.laws.AcceptedLaw.{well-formed}
use Rattle.model.specs.Suite.{survivor, judge_of}
use Rattle.model.specs.Operations.{judging}
use Rattle.model.proofs.laws.QuickJudgeLaw.{tabulate, cell_at, rounds, compare_quick, first_quick, judge_quick, quick}
use Rattle.renaming.specs.Ordering.{insert, union, place_in}
use Rattle.renaming.specs.Renaming.{meet_from, met_by, order, number_of, numbered, numbering}
use Rattle.worked.specs.Sheets.{p9}
use Rattle.worked.specs.Rows.{computing, sheet_of}

-- P9 with states 1 and 2 exchanged
unfoldable pub p9exchanged : List ℕ
p9exchanged =
    0x01 ∷ 4 ∷ 2 ∷ 2 ∷
    0x02 ∷ 0 ∷ 0 ∷ 0 ∷ 0 ∷
    0x02 ∷ 0 ∷ 1 ∷ 0 ∷ 2 ∷
    0x02 ∷ 1 ∷ 0 ∷ 0 ∷ 1 ∷
    0x02 ∷ 1 ∷ 1 ∷ 0 ∷ 3 ∷
    0x02 ∷ 2 ∷ 0 ∷ 0 ∷ 1 ∷
    0x02 ∷ 3 ∷ 0 ∷ 1 ∷ 0 ∷
    0x02 ∷ 3 ∷ 1 ∷ 0 ∷ 2 ∷
    0x03 ∷ 1 ∷ 0 ∷ 1 ∷ 1 ∷
    0x03 ∷ 1 ∷ 1 ∷ 0 ∷ 1 ∷
    0x03 ∷ 3 ∷ 0 ∷ 1 ∷ 2 ∷
    0x04 ∷ 0x05 ∷ 1 ∷ 0x05 ∷ 0 ∷ 0x05 ∷ 1 ∷ 0x05 ∷ 0 ∷ 0x05 ∷ 1 ∷ 0x05 ∷ 0 ∷ 0x06 ∷ []

-- STARTs and FAULTs that change their order: state 3 is met before state 2, and that before state 1
unfoldable pub waking : List ℕ
waking =
    0x01 ∷ 4 ∷ 2 ∷ 2 ∷
    0x02 ∷ 0 ∷ 0 ∷ 0 ∷ 3 ∷
    0x02 ∷ 0 ∷ 1 ∷ 0 ∷ 2 ∷
    0x02 ∷ 1 ∷ 0 ∷ 1 ∷ 0 ∷
    0x02 ∷ 2 ∷ 0 ∷ 0 ∷ 1 ∷
    0x02 ∷ 3 ∷ 0 ∷ 1 ∷ 2 ∷
    0x03 ∷ 2 ∷ 0 ∷ 0 ∷ 2 ∷
    0x03 ∷ 2 ∷ 0 ∷ 0 ∷ 3 ∷
    0x03 ∷ 3 ∷ 0 ∷ 1 ∷ 1 ∷
    0x07 ∷ 2 ∷
    0x07 ∷ 3 ∷
    0x04 ∷ 0x05 ∷ 0 ∷ 0x05 ∷ 0 ∷ 0x06 ∷ []

unfoldable pub waking_form : List ℕ
waking_form =
    0x01 ∷ 4 ∷ 2 ∷ 2 ∷
    0x02 ∷ 0 ∷ 0 ∷ 0 ∷ 1 ∷
    0x02 ∷ 0 ∷ 1 ∷ 0 ∷ 2 ∷
    0x02 ∷ 1 ∷ 0 ∷ 1 ∷ 2 ∷
    0x02 ∷ 2 ∷ 0 ∷ 0 ∷ 3 ∷
    0x02 ∷ 3 ∷ 0 ∷ 1 ∷ 0 ∷
    0x03 ∷ 1 ∷ 0 ∷ 1 ∷ 3 ∷
    0x03 ∷ 2 ∷ 0 ∷ 0 ∷ 1 ∷
    0x03 ∷ 2 ∷ 0 ∷ 0 ∷ 2 ∷
    0x07 ∷ 1 ∷
    0x07 ∷ 2 ∷
    0x04 ∷ 0x05 ∷ 0 ∷ 0x05 ∷ 0 ∷ 0x06 ∷ []

-- five states, quiet, one START
unfoldable pub five : List ℕ
five =
    0x01 ∷ 5 ∷ 2 ∷ 2 ∷
    0x08 ∷
    0x02 ∷ 0 ∷ 0 ∷ 1 ∷ 3 ∷
    0x02 ∷ 0 ∷ 1 ∷ 0 ∷ 4 ∷
    0x02 ∷ 1 ∷ 0 ∷ 0 ∷ 2 ∷
    0x02 ∷ 1 ∷ 1 ∷ 1 ∷ 1 ∷
    0x02 ∷ 2 ∷ 1 ∷ 1 ∷ 1 ∷
    0x02 ∷ 3 ∷ 1 ∷ 0 ∷ 0 ∷
    0x02 ∷ 4 ∷ 0 ∷ 0 ∷ 4 ∷
    0x02 ∷ 4 ∷ 1 ∷ 1 ∷ 2 ∷
    0x03 ∷ 1 ∷ 1 ∷ 1 ∷ 2 ∷
    0x03 ∷ 2 ∷ 1 ∷ 0 ∷ 3 ∷
    0x03 ∷ 3 ∷ 1 ∷ 0 ∷ 2 ∷
    0x07 ∷ 1 ∷
    0x04 ∷ 0x05 ∷ 0 ∷ 0x05 ∷ 1 ∷ 0x05 ∷ 0 ∷ 0x06 ∷ []

unfoldable pub five_form : List ℕ
five_form =
    0x01 ∷ 5 ∷ 2 ∷ 2 ∷
    0x08 ∷
    0x02 ∷ 0 ∷ 0 ∷ 1 ∷ 1 ∷
    0x02 ∷ 0 ∷ 1 ∷ 0 ∷ 2 ∷
    0x02 ∷ 1 ∷ 1 ∷ 0 ∷ 0 ∷
    0x02 ∷ 2 ∷ 0 ∷ 0 ∷ 2 ∷
    0x02 ∷ 2 ∷ 1 ∷ 1 ∷ 3 ∷
    0x02 ∷ 3 ∷ 1 ∷ 1 ∷ 4 ∷
    0x02 ∷ 4 ∷ 0 ∷ 0 ∷ 3 ∷
    0x02 ∷ 4 ∷ 1 ∷ 1 ∷ 4 ∷
    0x03 ∷ 1 ∷ 1 ∷ 0 ∷ 3 ∷
    0x03 ∷ 3 ∷ 1 ∷ 0 ∷ 1 ∷
    0x03 ∷ 4 ∷ 1 ∷ 1 ∷ 3 ∷
    0x07 ∷ 4 ∷
    0x04 ∷ 0x05 ∷ 0 ∷ 0x05 ∷ 1 ∷ 0x05 ∷ 0 ∷ 0x06 ∷ []

-- three inputs
unfoldable pub three : List ℕ
three =
    0x01 ∷ 4 ∷ 3 ∷ 2 ∷
    0x08 ∷
    0x02 ∷ 0 ∷ 0 ∷ 1 ∷ 1 ∷
    0x02 ∷ 0 ∷ 1 ∷ 1 ∷ 3 ∷
    0x02 ∷ 0 ∷ 2 ∷ 0 ∷ 1 ∷
    0x02 ∷ 1 ∷ 0 ∷ 0 ∷ 3 ∷
    0x02 ∷ 1 ∷ 1 ∷ 0 ∷ 0 ∷
    0x02 ∷ 1 ∷ 2 ∷ 1 ∷ 1 ∷
    0x02 ∷ 2 ∷ 0 ∷ 0 ∷ 2 ∷
    0x02 ∷ 2 ∷ 1 ∷ 1 ∷ 0 ∷
    0x02 ∷ 2 ∷ 2 ∷ 1 ∷ 1 ∷
    0x02 ∷ 3 ∷ 0 ∷ 0 ∷ 1 ∷
    0x02 ∷ 3 ∷ 1 ∷ 0 ∷ 2 ∷
    0x02 ∷ 3 ∷ 2 ∷ 0 ∷ 0 ∷
    0x03 ∷ 0 ∷ 1 ∷ 1 ∷ 1 ∷
    0x03 ∷ 1 ∷ 0 ∷ 1 ∷ 3 ∷
    0x03 ∷ 3 ∷ 2 ∷ 0 ∷ 1 ∷
    0x04 ∷ 0x05 ∷ 1 ∷ 0x06 ∷ []

unfoldable pub three_form : List ℕ
three_form =
    0x01 ∷ 4 ∷ 3 ∷ 2 ∷
    0x08 ∷
    0x02 ∷ 0 ∷ 0 ∷ 1 ∷ 1 ∷
    0x02 ∷ 0 ∷ 1 ∷ 1 ∷ 2 ∷
    0x02 ∷ 0 ∷ 2 ∷ 0 ∷ 1 ∷
    0x02 ∷ 1 ∷ 0 ∷ 0 ∷ 2 ∷
    0x02 ∷ 1 ∷ 1 ∷ 0 ∷ 0 ∷
    0x02 ∷ 1 ∷ 2 ∷ 1 ∷ 1 ∷
    0x02 ∷ 2 ∷ 0 ∷ 0 ∷ 1 ∷
    0x02 ∷ 2 ∷ 1 ∷ 0 ∷ 3 ∷
    0x02 ∷ 2 ∷ 2 ∷ 0 ∷ 0 ∷
    0x02 ∷ 3 ∷ 0 ∷ 0 ∷ 3 ∷
    0x02 ∷ 3 ∷ 1 ∷ 1 ∷ 0 ∷
    0x02 ∷ 3 ∷ 2 ∷ 1 ∷ 1 ∷
    0x03 ∷ 0 ∷ 1 ∷ 1 ∷ 1 ∷
    0x03 ∷ 1 ∷ 0 ∷ 1 ∷ 2 ∷
    0x03 ∷ 2 ∷ 2 ∷ 0 ∷ 1 ∷
    0x04 ∷ 0x05 ∷ 1 ∷ 0x06 ∷ []

-- a pair without a rule, (0, 1): its choices are numbered by the states' names
unfoldable pub unruled : List ℕ
unruled =
    0x01 ∷ 3 ∷ 2 ∷ 2 ∷
    0x02 ∷ 0 ∷ 0 ∷ 1 ∷ 2 ∷
    0x02 ∷ 1 ∷ 0 ∷ 1 ∷ 2 ∷
    0x02 ∷ 1 ∷ 1 ∷ 0 ∷ 1 ∷
    0x02 ∷ 2 ∷ 0 ∷ 1 ∷ 1 ∷
    0x02 ∷ 2 ∷ 1 ∷ 1 ∷ 2 ∷
    0x03 ∷ 2 ∷ 0 ∷ 1 ∷ 0 ∷
    0x06 ∷ []

unfoldable pub unruled_form : List ℕ
unruled_form =
    0x01 ∷ 3 ∷ 2 ∷ 2 ∷
    0x02 ∷ 0 ∷ 0 ∷ 1 ∷ 1 ∷
    0x02 ∷ 1 ∷ 0 ∷ 1 ∷ 2 ∷
    0x02 ∷ 1 ∷ 1 ∷ 1 ∷ 1 ∷
    0x02 ∷ 2 ∷ 0 ∷ 1 ∷ 1 ∷
    0x02 ∷ 2 ∷ 1 ∷ 0 ∷ 2 ∷
    0x03 ∷ 1 ∷ 0 ∷ 1 ∷ 0 ∷
    0x06 ∷ []

-- a sheet, the buffer's length, and the answer
pub record Row : Type 0 where
  pub sheet : List ℕ
  pub room : ℕ
  pub result : Result (List ℕ)

abbrev row : List ℕ → ℕ → Result (List ℕ) → Row
row sheet room result = record { sheet = sheet; room = room; result = result }

unfoldable pub rows : List Row
rows =
    -- P9 is in the form, and with its states exchanged it comes to the same bytes, in a buffer just long enough
    row p9 16384 (accepted p9)
    ∷ row p9exchanged 68 (accepted p9)
    ∷ row p9exchanged 67 (refused 16 0)
    ∷ row waking 16384 (accepted waking_form)
    ∷ row five 16384 (accepted five_form)
    ∷ row three 16384 (accepted three_form)
    ∷ row unruled 16384 (accepted unruled_form)
    ∷ row unruled_form 16384 (accepted unruled_form)
    -- a sheet that reading refuses is refused so in any buffer
    ∷ row (0x01 ∷ 2 ∷ 1 ∷ 1 ∷ 0x06 ∷ []) 0 (refused 11 4)
    ∷ []

pub numbered-so : map (λ (r : Row). numbering r.sheet r.room) rows ≡ map (λ (r : Row). r.result) rows
unfolding rows computing p9exchanged waking waking_form five five_form three three_form unruled unruled_form body encode insert union place_in meet_from met_by order number_of numbered numbering
numbered-so = refl

-- the survivor is the same machine in other names: its choice at the pair without a rule, and so its first byte, changes
abbrev Judged : List ℕ → List ℕ → Type 0
Judged sheet board = judging sheet 2 9 ≡ accepted (survivor board (0 ∷ 0 ∷ 1 ∷ 1 ∷ []))

unruled_sheet : Sheet
unfolding computing unruled
unruled_sheet = sheet_of (reading unruled)

unruled-read : reading unruled ≡ accepted unruled_sheet
unfolding computing unruled unruled_sheet
unruled-read = refl

form_sheet : Sheet
unfolding computing unruled_form
form_sheet = sheet_of (reading unruled_form)

form-read : reading unruled_form ≡ accepted form_sheet
unfolding computing unruled_form form_sheet
form-read = refl

unruled-judged : judge_of unruled_sheet ≡ survivor (2 ∷ 1 ∷ []) (0 ∷ 0 ∷ 1 ∷ 1 ∷ [])
unfolding computing unruled unruled_sheet tabulate cell_at rounds compare_quick first_quick judge_quick
unruled-judged = quick unruled_sheet (well-formed unruled unruled_sheet unruled-read)

form-judged : judge_of form_sheet ≡ survivor (1 ∷ 1 ∷ []) (0 ∷ 0 ∷ 1 ∷ 1 ∷ [])
unfolding computing unruled_form form_sheet tabulate cell_at rounds compare_quick first_quick judge_quick
form-judged = quick form_sheet (well-formed unruled_form form_sheet form-read)

pub survivors-so : Judged unruled (2 ∷ 1 ∷ []) × Judged unruled_form (1 ∷ 1 ∷ [])
unfolding computing unruled unruled_form unruled_sheet form_sheet
survivors-so = (ap accepted unruled-judged, ap accepted form-judged)
