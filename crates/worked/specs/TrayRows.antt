-- 02, Point 11: trays of boards, from a sheet's bytes to the results, by computation.
use Rattle.std.specs.Prelude.{ℕ, zero, suc, ◌<◌, ◌≤◌, ◌≡◌, refl, List, [], ◌∷◌, map, replicate}
use Rattle.std.proofs.Common.{mul-zero, ◌∙◌, ap, lt-ltb, le-ltb, lit<, lit≤}
use Rattle.std.proofs.Math.Option.{Option, none}
use Rattle.sheet.specs.Sheet.{Sheet}
use Rattle.sheet.specs.Reading.{Result, accepted, refused, reading}
use Rattle.model.specs.Mutant.{slots}
use Rattle.model.specs.Suite.{Place, first_failed_of}
use Rattle.model.specs.Operations.{first_high}
use Rattle.model.specs.Tray.{result_of, boards_in, slots_for, try_on, trying}
use Rattle.worked.specs.Sheets.{p4, p6, p9, p10, p1start}
use Rattle.worked.specs.Rows.{computing, sheet_of}

-- a sheet, how many boards, their choices, the length of the results, and what is to be answered
pub record TrayRow : Type 0 where
  pub sheet : List ℕ
  pub boards : ℕ
  pub tray : List ℕ
  pub room : ℕ
  pub answer : Result (List ℕ)

abbrev row : List ℕ → ℕ → List ℕ → ℕ → Result (List ℕ) → TrayRow
row sheet boards tray room answer = record { sheet = sheet; boards = boards; tray = tray; room = room; answer = answer }

abbrev pub Holds : TrayRow → Type 0
Holds r = trying r.sheet r.boards r.tray r.room ≡ r.answer

unfoldable pub AllHold : List TrayRow → Type 0
AllHold [] = Unit {0}
AllHold (r ∷ rs) = Holds r × AllHold rs

-- P9's boards: two that conform, one that fails bababa, and the two that survive it
abbrev p9boards : List ℕ
p9boards = 0 ∷ 0 ∷ 0 ∷ 0 ∷ 7 ∷ 0 ∷ 0 ∷ 0 ∷ 0 ∷ 0 ∷ 1 ∷ 0 ∷ 0 ∷ 1 ∷ 0 ∷ 0 ∷ 0 ∷ 0 ∷ 0 ∷ 1 ∷ []

-- P9's boards on its list and on P10's; with START; no board; then each refusal, before those that come after it
unfoldable pub rows : List TrayRow
rows =
    row p9 5 p9boards 5 (accepted (65535 ∷ 65535 ∷ 0 ∷ 65535 ∷ 65535 ∷ []))
    ∷ row p10 5 p9boards 9 (accepted (65535 ∷ 65535 ∷ 0 ∷ 1 ∷ 2 ∷ []))
    ∷ row p1start 2 (1 ∷ 0 ∷ 0 ∷ 1 ∷ []) 2 (accepted (0 ∷ 65535 ∷ []))
    ∷ row p9 0 [] 0 (accepted [])
    ∷ row [] 2 (9 ∷ []) 0 (refused 2 0)
    ∷ row p4 2 (9 ∷ 9 ∷ 9 ∷ []) 0 (refused 13 0)
    ∷ row p4 0 (9 ∷ 9 ∷ []) 0 (refused 13 0)
    ∷ row p4 2 (0 ∷ 0 ∷ 3 ∷ 2 ∷ []) 0 (refused 14 3)
    ∷ row p4 2 (4 ∷ 0 ∷ 4 ∷ 0 ∷ []) 0 (refused 14 0)
    ∷ row p4 3 (0 ∷ 0 ∷ 0 ∷ 0 ∷ 4 ∷ 2 ∷ []) 3 (refused 14 4)
    ∷ row p4 2 (0 ∷ 0 ∷ 0 ∷ 0 ∷ []) 1 (refused 16 0)
    ∷ row p6 0 (0 ∷ []) 0 (refused 13 0)
    ∷ row p6 0 [] 0 (accepted [])
    ∷ row p6 1 [] 1 (accepted (65535 ∷ []))
    ∷ []

pub rows-hold : AllHold rows
unfolding computing rows AllHold boards_in slots_for try_on trying
rows-hold = (refl, (refl, (refl, (refl, (refl, (refl, (refl, (refl, (refl, (refl, (refl, (refl, (refl, (refl, tt))))))))))))))

-- ---- no open pairs: any number of boards is an empty tray

unfoldable sheet6 : Sheet
unfolding computing
sheet6 = sheet_of (reading p6)

sheet6-read : reading p6 ≡ accepted sheet6
unfolding computing sheet6
sheet6-read = refl

slots6 : slots sheet6 ≡ []
unfolding computing sheet6
slots6 = refl

failed6 : first_failed_of sheet6 [] ≡ none
unfolding computing sheet6
failed6 = refl

no-slots : (boards : ℕ) → slots_for boards [] ≡ []
unfolding slots_for
no-slots zero = refl
no-slots (suc boards) = no-slots boards

no-choices : (f : List ℕ → ℕ) (boards : ℕ) → map f (boards_in boards 0 []) ≡ replicate boards (f [])
unfolding boards_in
no-choices f zero = refl
no-choices f (suc boards) = ap (λ (l : List ℕ). f [] ∷ l) (no-choices f boards)

tried6 : (boards room : ℕ) → boards ≤ room → try_on sheet6 boards [] room ≡ accepted (replicate boards 65535)
unfolding try_on first_high
tried6 boards room l =
    rw (slots6, mul-zero boards, no-slots boards, le-ltb room boards l)
    (ap accepted (no-choices (λ (b : List ℕ). result_of (first_failed_of sheet6 b)) boards ∙ ap (λ (o : Option Place). replicate boards (result_of o)) failed6))

short6 : (boards room : ℕ) → room < boards → try_on sheet6 boards [] room ≡ refused 16 0
unfolding try_on first_high
short6 boards room l = rw (slots6, mul-zero boards, no-slots boards, lt-ltb room boards l) refl

trying6 : (boards room : ℕ) → trying p6 boards [] room ≡ try_on sheet6 boards [] room
unfolding trying
trying6 boards room = rw sheet6-read refl

pub many-boards : trying p6 70000 [] 70000 ≡ accepted (replicate 70000 65535)
many-boards = trying6 70000 70000 ∙ tried6 70000 70000 (lit≤ tt)

pub one_more : trying p6 70001 [] 70000 ≡ refused 16 0
one_more = trying6 70001 70000 ∙ short6 70001 70000 (lit< tt)
