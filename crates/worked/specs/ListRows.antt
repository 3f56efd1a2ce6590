-- 02, Point 14: P10's three tests in all their orders, and P9's list with one and with both of P10's other tests, by computation.
use Rattle.std.specs.Prelude.{ℕ, ◌*◌, ◌≡◌, refl, List, [], ◌∷◌, ◌++◌, ltb, length}
use Rattle.std.proofs.Common.{◌∙◌}
use Rattle.sheet.specs.Sheet.{Sheet}
use Rattle.sheet.specs.Reading.{Result, accepted, reading}
use Rattle.sheet.specs.laws.AcceptedLaw.{well-formed}
use Rattle.model.specs.Mutant.{slots}
use Rattle.model.specs.Suite.{Judgement, complete, survivor}
use Rattle.model.specs.Operations.{refuse_if, judge_on, judging}
use Rattle.model.proofs.laws.QuickJudgeLaw.{tabulate, cell_at, rounds, compare_quick, first_quick, judge_quick, quick}
use Rattle.worked.specs.Sheets.{p9machine, bababa}
use Rattle.worked.specs.Rows.{computing, sheet_of}
use Rattle.worked.specs.MadeRows.{babaaba, baa}

-- P9's machine with these tests
unfoldable pub listing : List ℕ → List ℕ
listing tests = p9machine ++ (tests ++ 0x06 ∷ [])

-- a list of tests, and what Judge is to answer of P9's machine with it
pub record ListRow : Type 0 where
  pub tests : List ℕ
  pub answer : Judgement

abbrev row : List ℕ → Judgement → ListRow
row tests answer = record { tests = tests; answer = answer }

abbrev pub Holds : ListRow → Type 0
Holds r = judging (listing r.tests) 4 16 ≡ accepted r.answer

unfoldable pub AllHold : List ListRow → Type 0
AllHold [] = Unit {0}
AllHold (r ∷ rs) = Holds r × AllHold rs

unfoldable pub rows : List ListRow
rows =
    row (bababa ++ (baa ++ babaaba)) complete
    ∷ row (bababa ++ (babaaba ++ baa)) complete
    ∷ row (baa ++ (bababa ++ babaaba)) complete
    ∷ row (baa ++ (babaaba ++ bababa)) complete
    ∷ row (babaaba ++ (bababa ++ baa)) complete
    ∷ row (babaaba ++ (baa ++ bababa)) complete
    ∷ row bababa (survivor (0 ∷ 0 ∷ 0 ∷ 1 ∷ []) (1 ∷ 0 ∷ 1 ∷ 0 ∷ 0 ∷ 1 ∷ 0 ∷ []))
    ∷ row (bababa ++ babaaba) (survivor (0 ∷ 1 ∷ 0 ∷ 0 ∷ []) (1 ∷ 0 ∷ 0 ∷ []))
    ∷ row (bababa ++ baa) (survivor (0 ∷ 0 ∷ 0 ∷ 1 ∷ []) (1 ∷ 0 ∷ 1 ∷ 0 ∷ 0 ∷ 1 ∷ 0 ∷ []))
    ∷ []

-- conforming mutants are compared over all sequences of 16 inputs: a quicker judgement, proved to be the same, computes the rows
unfoldable quick_on : Sheet → Result Judgement
quick_on sh =
    refuse_if (ltb 4 (length (slots sh))) 16 0 (refuse_if (ltb 16 (sh.size.states * sh.size.states)) 16 1 (accepted (judge_quick sh)))

quickly : (s : List ℕ) (sh : Sheet) → reading s ≡ accepted sh → judging s 4 16 ≡ quick_on sh
unfolding judging judge_on quick_on
quickly s sh read = rw (read, quick sh (well-formed s sh read)) refl

-- a row holds if its sheet is accepted and the quicker judgement gives its answer
computed :
    (r : ListRow) → let sh = sheet_of (reading (listing r.tests)) in
    reading (listing r.tests) ≡ accepted sh → quick_on sh ≡ accepted r.answer → Holds r
computed r read answers = quickly (listing r.tests) (sheet_of (reading (listing r.tests))) read ∙ answers

pub rows-hold : AllHold rows
unfolding computing rows listing AllHold quick_on tabulate cell_at rounds compare_quick first_quick judge_quick
rows-hold = (
  computed (row (bababa ++ (baa ++ babaaba)) complete) refl refl,
  (
    computed (row (bababa ++ (babaaba ++ baa)) complete) refl refl,
    (
      computed (row (baa ++ (bababa ++ babaaba)) complete) refl refl,
      (
        computed (row (baa ++ (babaaba ++ bababa)) complete) refl refl,
        (
          computed (row (babaaba ++ (bababa ++ baa)) complete) refl refl,
          (
            computed (row (babaaba ++ (baa ++ bababa)) complete) refl refl,
            (
              computed (row bababa (survivor (0 ∷ 0 ∷ 0 ∷ 1 ∷ []) (1 ∷ 0 ∷ 1 ∷ 0 ∷ 0 ∷ 1 ∷ 0 ∷ []))) refl refl,
              (
                computed (row (bababa ++ babaaba) (survivor (0 ∷ 1 ∷ 0 ∷ 0 ∷ []) (1 ∷ 0 ∷ 0 ∷ []))) refl refl,
                (
                  computed (row (bababa ++ baa) (survivor (0 ∷ 0 ∷ 0 ∷ 1 ∷ []) (1 ∷ 0 ∷ 1 ∷ 0 ∷ 0 ∷ 1 ∷ 0 ∷ []))) refl refl,
                  tt,
                ),
              ),
            ),
          ),
        ),
      ),
    ),
  ),
)
