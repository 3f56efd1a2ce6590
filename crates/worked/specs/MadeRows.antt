-- 02, Point 6: test suites made complete, from a sheet's bytes to the made sheet's, by computation.
use Rattle.std.specs.Prelude.{ℕ, ◌≤◌, ◌≡◌, refl, List, [], ◌∷◌, ◌++◌, length, replicate}
use Rattle.std.proofs.Common.{◌∙◌, ap, lit<, lit≤}
use Rattle.sheet.specs.Sheet.{Sheet}
use Rattle.sheet.specs.Encode.{encode, body}
use Rattle.sheet.specs.Reading.{Result, accepted, refused, reading}
use Rattle.sheet.specs.laws.AcceptedLaw.{well-formed}
use Rattle.model.specs.Suite.{complete, survivor, judge_of}
use Rattle.model.specs.Longer.{with_test}
use Rattle.model.specs.Making.{Grown, grow_from, make_on, making}
use Rattle.model.proofs.laws.MakingLaw.{grow-complete, grow-more}
use Rattle.model.proofs.laws.QuickJudgeLaw.{tabulate, cell_at, rounds, compare_quick, first_quick, judge_quick, quick}
use Rattle.worked.specs.Sheets.{p1machine, p1, p2, p3, p4machine, p4, p5, p9machine, bababa, p9, p1start, p4quiet, p4silent}
use Rattle.worked.specs.Rows.{computing, sheet_of}

-- a made sheet's bytes, and how many tests were appended
pub record MadeSheet : Type 0 where
  pub bytes : List ℕ
  pub appended : ℕ

abbrev pub spelled : Result Grown → Result MadeSheet
spelled (accepted g) = accepted (record { bytes = encode g.sheet; appended = g.appended })
spelled (refused number place) = refused number place

abbrev made : List ℕ → ℕ → Result MadeSheet
made bytes appended = accepted (record { bytes = bytes; appended = appended })

-- a sheet, the buffer's length, and what making is to answer
pub record MadeRow : Type 0 where
  pub sheet : List ℕ
  pub room : ℕ
  pub answer : Result MadeSheet

abbrev row : List ℕ → ℕ → Result MadeSheet → MadeRow
row sheet room answer = record { sheet = sheet; room = room; answer = answer }

abbrev pub Holds : MadeRow → Type 0
Holds r = spelled (making r.sheet r.room) ≡ r.answer

unfoldable pub AllHold : List MadeRow → Type 0
AllHold [] = Unit {0}
AllHold (r ∷ rs) = Holds r × AllHold rs

-- the tests ab, aba and, of P9, babaaba and baa
abbrev ab : List ℕ
ab = 0x04 ∷ 0x05 ∷ 0 ∷ 0x05 ∷ 1 ∷ []

abbrev aba : List ℕ
aba = 0x04 ∷ 0x05 ∷ 0 ∷ 0x05 ∷ 1 ∷ 0x05 ∷ 0 ∷ []

abbrev pub babaaba : List ℕ
babaaba = 0x04 ∷ 0x05 ∷ 1 ∷ 0x05 ∷ 0 ∷ 0x05 ∷ 1 ∷ 0x05 ∷ 0 ∷ 0x05 ∷ 0 ∷ 0x05 ∷ 1 ∷ 0x05 ∷ 0 ∷ []

abbrev pub baa : List ℕ
baa = 0x04 ∷ 0x05 ∷ 1 ∷ 0x05 ∷ 0 ∷ 0x05 ∷ 0 ∷ []

-- P1's machine with that many empty tests, then others
unfoldable pub full : ℕ → List ℕ → List ℕ
full n tests = p1machine ++ (replicate n 0x04 ++ (tests ++ 0x06 ∷ []))

-- incomplete lists, complete ones, no room for one test more; with START; with QUIET; a short buffer, which comes first; no sheet
unfoldable pub rows : List MadeRow
rows =
    row p1 16384 (made (p1machine ++ (ab ++ (aba ++ 0x06 ∷ []))) 1)
    ∷ row p3 16384 (made p2 1)
    ∷ row p4 16384 (made (p4machine ++ (ab ++ (aba ++ 0x06 ∷ []))) 1)
    ∷ row p2 16384 (made p2 0)
    ∷ row p5 20000 (made p5 0)
    ∷ row (full 256 []) 16384 (refused 18 0)
    ∷ row (full 255 []) 16384 (made (full 255 aba) 1)
    ∷ row (full 255 aba) 16384 (made (full 255 aba) 0)
    ∷ row p1start 16384 (made (p1machine ++ 0x07 ∷ 1 ∷ (ab ++ (aba ++ 0x06 ∷ []))) 1)
    ∷ row p4quiet 16384 (made (p4silent ++ (ab ++ (aba ++ 0x06 ∷ []))) 1)
    ∷ row p1 16383 (refused 16 0)
    ∷ row (full 256 []) 16383 (refused 16 0)
    ∷ row [] 0 (refused 2 0)
    ∷ []

pub rows-hold : AllHold rows
unfolding computing rows full AllHold encode body grow_from make_on making
rows-hold = (refl, (refl, (refl, (refl, (refl, (refl, (refl, (refl, (refl, (refl, (refl, (refl, (refl, tt)))))))))))))

-- ---- P9, made complete by two tests
-- its conforming mutants are compared over all sequences of 16 inputs: a quicker judgement, proved to be the same, computes it
unfoldable sheet9 : Sheet
unfolding computing
sheet9 = sheet_of (reading p9)

abbrev first9 : Sheet
first9 = with_test sheet9 (1 ∷ 0 ∷ 1 ∷ 0 ∷ 0 ∷ 1 ∷ 0 ∷ [])

abbrev both9 : Sheet
both9 = with_test first9 (1 ∷ 0 ∷ 0 ∷ [])

abbrev p9first : List ℕ
p9first = p9machine ++ (bababa ++ (babaaba ++ 0x06 ∷ []))

abbrev p9both : List ℕ
p9both = p9machine ++ (bababa ++ (babaaba ++ (baa ++ 0x06 ∷ [])))

sheet9-read : reading p9 ≡ accepted sheet9
unfolding computing sheet9
sheet9-read = refl

first9-read : reading p9first ≡ accepted first9
unfolding computing sheet9
first9-read = refl

both9-read : reading p9both ≡ accepted both9
unfolding computing sheet9
both9-read = refl

sheet9-judged : judge_of sheet9 ≡ survivor (0 ∷ 0 ∷ 0 ∷ 1 ∷ []) (1 ∷ 0 ∷ 1 ∷ 0 ∷ 0 ∷ 1 ∷ 0 ∷ [])
unfolding computing sheet9 tabulate cell_at rounds compare_quick first_quick judge_quick
sheet9-judged = quick sheet9 (well-formed p9 sheet9 sheet9-read)

first9-judged : judge_of first9 ≡ survivor (0 ∷ 1 ∷ 0 ∷ 0 ∷ []) (1 ∷ 0 ∷ 0 ∷ [])
unfolding computing sheet9 tabulate cell_at rounds compare_quick first_quick judge_quick
first9-judged = quick first9 (well-formed p9first first9 first9-read)

both9-judged : judge_of both9 ≡ complete
unfolding computing sheet9 tabulate cell_at rounds compare_quick first_quick judge_quick
both9-judged = quick both9 (well-formed p9both both9 both9-read)

first9-short : length (encode first9) ≤ 16384
unfolding computing sheet9 encode body
first9-short = lit≤ tt

both9-bytes : encode both9 ≡ p9both
unfolding computing sheet9 encode body
both9-bytes = refl

both9-short : length (encode both9) ≤ 16384
unfolding computing sheet9 encode body
both9-short = lit≤ tt

grown9 : grow_from 255 0 sheet9 ≡ accepted (record { sheet = both9; appended = 2 })
grown9 =
    grow-more 255 0 sheet9 (0 ∷ 0 ∷ 0 ∷ 1 ∷ []) (1 ∷ 0 ∷ 1 ∷ 0 ∷ 0 ∷ 1 ∷ 0 ∷ []) sheet9-judged (lit< tt) first9-short
    ∙ grow-more 254 1 first9 (0 ∷ 1 ∷ 0 ∷ 0 ∷ []) (1 ∷ 0 ∷ 0 ∷ []) first9-judged (lit< tt) both9-short
    ∙ grow-complete 253 2 both9 both9-judged

making9 : making p9 16384 ≡ grow_from 255 0 sheet9
unfolding computing sheet9 make_on making
making9 = refl

pub p9-holds : Holds (row p9 16384 (made p9both 2))
p9-holds = ap spelled (making9 ∙ grown9) ∙ ap (λ (bytes : List ℕ). made bytes 2) both9-bytes
