-- 02's Point 8: a sheet with one test more, the last.
use Rattle.std.specs.Prelude.{Result as Answer, Ok, Err}
use Rattle.std.specs.Prelude.{ℕ, ◌+◌, ◌≤◌, ◌<◌, ◌≡◌, List, [], ◌∷◌, leb, ltb, length, take}
use Rattle.lists.specs.Lists.{maybe, overlay}
use Rattle.sheet.specs.Sheet.{Sheet, rule_at}
use Rattle.sheet.specs.Reading.{Result, accepted, refused, reading}
use Rattle.sheet.specs.Encode.{encode}
use Rattle.sheet.specs.WellFormed.{TestIn}
use Rattle.sheet.specs.declared.Refusal.{Refusal}
use Rattle.sheet.specs.Tables.{refusal_of}
use Rattle.writing.specs.Writing.{written_answer, sheet_writes}
use Rattle.model.specs.Longer.{with_test}
use Rattle.model.specs.Operations.{reads, refuse_if}

-- what comes after an outcome: on a refusal the refusal
abbrev pub onward : {A B : Type 0} → Result A → (A → Result B) → Result B
onward (accepted a) f = f a
onward (refused number place) f = refused number place

-- the press i of a test, at the state s: the state that it leads to; or at its index 5 (not below k), 8 (the 257th), 9 (no RULE there)
unfoldable pub one_press : Sheet → ℕ → ℕ → ℕ → Result ℕ
one_press sh i s x =
    refuse_if (leb sh.size.inputs x) 5 i
    (refuse_if (leb 256 i) 8 i
    (maybe (rule_at sh.rules s x) (refused 9 i) (λ r. accepted r.target)))

-- the presses of a test from the press i on, at the state s: the state that they lead to
unfoldable pub pressing : Sheet → ℕ → ℕ → List ℕ → Result ℕ
pressing sh i s [] = accepted s
pressing sh i s (x ∷ xs) = onward (one_press sh i s x) (λ t. pressing sh (i + 1) t xs)

-- the longer sheet: 8 at 0 with 256 tests already; then press by press; then 1 for over 16,384 bytes; then 16 for a buffer
-- shorter than it
unfoldable pub add_on : Sheet → List ℕ → ℕ → Result (List ℕ)
add_on sh xs room =
    refuse_if (leb 256 (length sh.tests)) 8 0
    (onward (pressing sh 0 0 xs) (λ t.
    refuse_if (ltb 16384 (length (encode (with_test sh xs)))) 1 0
    (refuse_if (ltb room (length (encode (with_test sh xs)))) 16 0 (accepted (encode (with_test sh xs))))))

unfoldable pub adding : List ℕ → List ℕ → ℕ → Result (List ℕ)
adding s xs room = reads (reading s) (λ sh. add_on sh xs room)

-- an answer, and what it leaves in the buffer
pub record Adds (result : Result (List ℕ)) (r : Answer ℕ Refusal) (old new : List ℕ) : Type 0 where
  pub answer : r ≡ written_answer result
  pub bytes : new ≡ overlay (sheet_writes result) old

-- ---- what it means
-- refused so, and the buffer is as lent
pub record RefusedBy (number place : ℕ) (r : Answer ℕ Refusal) (old new : List ℕ) : Type 0 where
  pub answer : r ≡ Err (refusal_of number place)
  pub untouched : new ≡ old

-- refused at one of the presses
pub record PressRefused (xs : List ℕ) (r : Answer ℕ Refusal) (old new : List ℕ) : Type 0 where
  pub number : ℕ
  pub place : ℕ
  pub inside : place < length xs
  pub refuses : RefusedBy number place r old new

-- 02's sentences in their order, of an accepted sheet, the answer, and the buffer as lent and after it
pub record ToldAdded (sh : Sheet) (xs : List ℕ) (r : Answer ℕ Refusal) (old new : List ℕ) : Type 0 where
  -- what is written is accepted: the same machine, the same tests, and that test last
  pub longer : (n : ℕ) → r ≡ Ok n → reading (take n new) ≡ accepted (with_test sh xs)
  -- a list already at 256 tests
  pub full : length sh.tests ≡ 256 → RefusedBy 8 0 r old new
  -- then presses that are no test: one of them is refused
  pub undefined : length sh.tests < 256 → (TestIn sh.rules xs → ⊥) → PressRefused xs r old new
  -- then a sheet that would pass 16,384 bytes
  pub long : length sh.tests < 256 → TestIn sh.rules xs → 16384 < length (encode (with_test sh xs)) → RefusedBy 1 0 r old new
  -- then a buffer shorter than the longer sheet
  pub short : length sh.tests < 256 → TestIn sh.rules xs → length (encode (with_test sh xs)) ≤ 16384 → length old < length (encode (with_test sh xs)) →
      RefusedBy 16 0 r old new
  -- and otherwise it is written
  pub fits : length sh.tests < 256 → TestIn sh.rules xs → length (encode (with_test sh xs)) ≤ 16384 → length (encode (with_test sh xs)) ≤ length old →
      r ≡ Ok (length (encode (with_test sh xs)))
