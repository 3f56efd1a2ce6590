-- 02's Point 6: a suite made complete. While the suite is incomplete, the verdict's sequence is appended as a new test.
use Rattle.std.specs.Prelude.{ℕ, zero, suc, ◌-◌, ◌<◌, ◌≡◌, cond, ◌⊎◌, List, [], ◌∷◌, ◌++◌, ltb, length}
use Rattle.sheet.specs.Sheet.{Sheet}
use Rattle.sheet.specs.Encode.{encode}
use Rattle.sheet.specs.Reading.{Result, accepted, refused, reading, with_tests}
use Rattle.model.specs.Suite.{Judgement, complete, survivor, judge_of}
use Rattle.model.specs.Implementation.{Guaranteed}
use Rattle.model.specs.Operations.{reads, refuse_if}
use Rattle.model.specs.Verdict.{RightOn, ShortestOf, FirstSurvivor, Complete}
use Rattle.model.specs.Longer.{with_test}

-- a sheet whose suite is judged complete, and how many of its tests were appended
pub record Grown : Type 0 where
  pub sheet : Sheet
  pub appended : ℕ

-- by the judgement: what was grown so far, or what becomes of a survivor's sequence
abbrev pub judged_by : Judgement → Result Grown → (List ℕ → Result Grown) → Result Grown
judged_by complete grown more = grown
judged_by (survivor b xs) grown more = more xs

-- with room for so many tests more, and so many appended already. 18: the next append would pass 256 tests, as there is no room, or
-- 16,384 bytes
unfoldable pub grow_from : ℕ → ℕ → Sheet → Result Grown
grow_from zero appended sh = judged_by (judge_of sh) (accepted (record { sheet = sh; appended = appended })) (λ xs. refused 18 0)
grow_from (suc room) appended sh =
    judged_by (judge_of sh) (accepted (record { sheet = sh; appended = appended }))
    (λ xs.
    let rest = grow_from room (suc appended) (with_test sh xs) in
    cond (ltb 16384 (length (encode (with_test sh xs)))) (refused 18 0) rest)

-- 16 for a buffer below 16,384 bytes, then 18
unfoldable pub make_on : Sheet → ℕ → Result Grown
make_on sh room = refuse_if (ltb room 16384) 16 0 (grow_from (256 - length sh.tests) 0 sh)

unfoldable pub making : List ℕ → ℕ → Result Grown
making s room = reads (reading s) (λ sh. make_on sh room)

-- ---- what it means
-- the test xs is the verdict's sequence after the tests ts; so some nonconforming mutant that passes all of them fails it
pub record Needed (sh : Sheet) (ts : List (List ℕ)) (xs : List ℕ) : Type 0 where
  pub mutant : List ℕ
  pub first : FirstSurvivor (with_tests sh ts) mutant
  pub shortest : ShortestOf (with_tests sh ts) mutant xs
  pub fails : RightOn sh mutant xs → ⊥

-- each of the tests us, appended to ts one after another, is needed where it was appended
unfoldable pub EachNeeded : Sheet → List (List ℕ) → List (List ℕ) → Type 0
EachNeeded sh ts [] = Unit {0}
EachNeeded sh ts (xs ∷ us) = Needed sh ts xs × EachNeeded sh (ts ++ xs ∷ []) us

-- the machine is the same, the original suite stands at the front, each appended test was needed, and the suite is complete,
-- with the lasting guarantee
pub record MadeComplete (sh made : Sheet) (appended : ℕ) : Type 0 where
  pub added : List (List ℕ)
  pub is : made ≡ with_tests sh (sh.tests ++ added)
  pub many : appended ≡ length added
  pub needed : EachNeeded sh sh.tests added
  pub complete : Complete made
  pub guaranteed : Guaranteed made

-- after some appended tests, each of them needed, there is a survivor whose sequence does not fit: it would be the 257th test, or
-- pass 16,384 bytes
pub record NoRoom (sh : Sheet) : Type 0 where
  pub added : List (List ℕ)
  pub needed : EachNeeded sh sh.tests added
  pub mutant : List ℕ
  pub sequence : List ℕ
  pub survivor : FirstSurvivor (with_tests sh (sh.tests ++ added)) mutant
  pub shortest : ShortestOf (with_tests sh (sh.tests ++ added)) mutant sequence
  pub full : (length (sh.tests ++ added) ≡ 256) ⊎ (16384 < length (encode (with_tests sh ((sh.tests ++ added) ++ sequence ∷ []))))

-- the suite is made, and its sheet is accepted; or 18, as there is no room
abbrev pub MadeMeans : Sheet → Result Grown → Type 0
MadeMeans sh (accepted g) = MadeComplete sh g.sheet g.appended × (reading (encode g.sheet) ≡ accepted g.sheet)
MadeMeans sh (refused number place) = (number ≡ 18) × (place ≡ 0) × NoRoom sh
