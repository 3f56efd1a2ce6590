-- What the program prints.
use Rattle.std.specs.Prelude.{Result as Answer, Ok, Err}
use Rattle.std.specs.Prelude.{ℕ, zero, suc, ◌+◌, ◌/◌, ◌%◌, ◌≡◌, cond, List, [], ◌∷◌, ◌++◌, ltb, length}
use Rattle.lists.specs.Lists.{overlay}
use Rattle.sheet.specs.declared.Refusal.{Refusal}
use Rattle.sheet.specs.declared.Summary.{Summary}
use Rattle.sheet.specs.Reading.{Result, accepted, refused}
use Rattle.model.specs.Suite.{Judgement, complete, survivor}

-- the digits of a number in ASCII, the most significant first; fuel of one more than the number never runs out
unfoldable pub decimal_from : ℕ → ℕ → List ℕ
decimal_from zero n = []
decimal_from (suc fuel) n =
    let upper = decimal_from fuel (n / 10) in
    let last = (48 + n % 10) ∷ [] in
    cond (ltb n 10) last (upper ++ last)

unfoldable pub decimal : ℕ → List ℕ
decimal n = decimal_from (suc n) n

-- each number after one blank
unfoldable pub fields : List ℕ → List ℕ
fields [] = []
fields (x ∷ xs) = 32 ∷ decimal x ++ fields xs

abbrev pub newline : List ℕ
newline = 10 ∷ []

-- complete
abbrev pub complete_text : List ℕ
complete_text = 99 ∷ 111 ∷ 109 ∷ 112 ∷ 108 ∷ 101 ∷ 116 ∷ 101 ∷ newline

-- survivor
abbrev pub survivor_text : List ℕ
survivor_text = 115 ∷ 117 ∷ 114 ∷ 118 ∷ 105 ∷ 118 ∷ 111 ∷ 114 ∷ newline

-- board
abbrev pub board_text : List ℕ
board_text = 98 ∷ 111 ∷ 97 ∷ 114 ∷ 100 ∷ []

-- press
abbrev pub press_text : List ℕ
press_text = 112 ∷ 114 ∷ 101 ∷ 115 ∷ 115 ∷ []

-- refused, at: with a blank on each side that a number stands
abbrev pub refused_text : List ℕ
refused_text = 114 ∷ 101 ∷ 102 ∷ 117 ∷ 115 ∷ 101 ∷ 100 ∷ 32 ∷ []

abbrev pub at_text : List ℕ
at_text = 32 ∷ 97 ∷ 116 ∷ 32 ∷ []

-- a word, numbers and a line feed
unfoldable pub line : List ℕ → List ℕ → List ℕ
line name numbers = name ++ (fields numbers ++ newline)

unfoldable pub survivor_lines : List ℕ → List ℕ → List ℕ
survivor_lines b xs = survivor_text ++ (line board_text b ++ line press_text xs)

unfoldable pub refused_line : ℕ → ℕ → List ℕ
refused_line number place = refused_text ++ (decimal number ++ (at_text ++ (decimal place ++ newline)))

-- 01's The program: `complete`; or three lines, `survivor`, `board` and the choices, `press` and the presses; or `refused N at P`
unfoldable pub text_of : Result Judgement → List ℕ
text_of (accepted complete) = complete_text
text_of (accepted (survivor b xs)) = survivor_lines b xs
text_of (refused number place) = refused_line number place

-- a buffer of fewer than 2,048 bytes gets nothing
unfoldable pub text_in : ℕ → Result Judgement → List ℕ
text_in room result = cond (ltb room 2048) [] (text_of result)

-- how many choices a mutant has, by what Read answers; 0 on a refusal
abbrev pub suspects_in : Answer Summary Refusal → ℕ
suspects_in (Ok summary) = summary.suspects
suspects_in (Err why) = 0

-- the text stands at the buffer's front, r is its length, and the bytes after it are as they were
pub record Prints (old new : List ℕ) (r : ℕ) (text : List ℕ) : Type 0 where
  pub answer : r ≡ length text
  pub bytes : new ≡ overlay text old
