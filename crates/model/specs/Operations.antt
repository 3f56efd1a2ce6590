-- What each operation of 01 comes to, as one function of the bytes and lengths it gets, with its refusals in their order: on an
-- accepted sheet (`..On`), and from the bytes.
use Rattle.std.specs.Prelude.{ℕ, zero, ◌*◌, Bool, cond, not, List, [], ◌∷◌, eqb, ltb, length}
use Rattle.std.proofs.Math.Option.{Option, none, some}
use Rattle.sheet.specs.Sheet.{Sheet}
use Rattle.sheet.specs.Reading.{Result, accepted, refused, Reading, reading}
use Rattle.model.specs.Mutant.{slots, later, outputs}
use Rattle.model.specs.Used.{Usage, used_on}
use Rattle.model.specs.Suite.{Finding, finding_of, compare_of, Judgement, judge_of}

-- a sheet refused on reading ends an operation with the same number and place
abbrev pub reads : {A : Type 0} → Reading → (Sheet → Result A) → Result A
reads (accepted sh) f = f sh
reads (refused number place) f = refused number place

abbrev pub refuse_if : {A : Type 0} → Bool → ℕ → ℕ → Result A → Result A
refuse_if broken number place r = cond broken (refused number place) r

-- refused at the lowest index, if there is one
abbrev pub refuse_at : {A : Type 0} → Option ℕ → ℕ → Result A → Result A
refuse_at none number r = r
refuse_at (some i) number r = refused number i

-- the lowest index of a choice that is not below its number of choices
unfoldable pub first_high : List ℕ → List ℕ → Option ℕ
first_high [] b = none
first_high (c ∷ cs) [] = none
first_high (c ∷ cs) (i ∷ b) =
    let rest = later (first_high cs b) in
    cond (ltb i c) rest (some zero)

-- the lowest index of an input that is not below k
unfoldable pub first_over : ℕ → List ℕ → Option ℕ
first_over k [] = none
first_over k (x ∷ xs) =
    let rest = later (first_over k xs) in
    cond (ltb x k) rest (some zero)

-- 13: the mutant's length is not the number of slots; 14: a choice out of range
unfoldable pub with_mutant : {A : Type 0} → Sheet → List ℕ → Result A → Result A
with_mutant sh b r = refuse_if (not (eqb (length b) (length (slots sh)))) 13 0 (refuse_at (first_high (slots sh) b) 14 r)

-- what Run finds: the outputs, and the slots used
pub record Response : Type 0 where
  pub outputs : List ℕ
  pub used : Usage

unfoldable pub response_of : Sheet → List ℕ → List ℕ → Response
response_of sh b xs = record { outputs = outputs sh b xs; used = used_on sh b (xs ∷ []) }

-- Run: 13, 14, then 15 for an input not below k, then 16 for a buffer shorter than the inputs
unfoldable pub run_on : Sheet → List ℕ → List ℕ → ℕ → Result Response
run_on sh b xs room =
    with_mutant sh b (refuse_at (first_over sh.size.inputs xs) 15 (refuse_if (ltb room (length xs)) 16 0 (accepted (response_of sh b xs))))

unfoldable pub running : List ℕ → List ℕ → List ℕ → ℕ → Result Response
running s b xs room = reads (reading s) (λ sh. run_on sh b xs room)

-- First failed test: 13, 14
unfoldable pub failing : List ℕ → List ℕ → Result Finding
failing s b = reads (reading s) (λ sh. with_mutant sh b (accepted (finding_of sh b)))

-- Compare: 13, 14, then 16 for a buffer shorter than n × n
unfoldable pub compare_on : Sheet → List ℕ → ℕ → Result (Option (List ℕ))
compare_on sh b room = with_mutant sh b (refuse_if (ltb room (sh.size.states * sh.size.states)) 16 0 (accepted (compare_of sh b)))

unfoldable pub comparing : List ℕ → List ℕ → ℕ → Result (Option (List ℕ))
comparing s b room = reads (reading s) (λ sh. compare_on sh b room)

-- Judge: 16 at place 0 for a board buffer shorter than the number of slots, then 16 at place 1 for a sequence buffer
-- shorter than n × n
unfoldable pub judge_on : Sheet → ℕ → ℕ → Result Judgement
judge_on sh board_room sequence_room =
    refuse_if (ltb board_room (length (slots sh))) 16 0
    (refuse_if (ltb sequence_room (sh.size.states * sh.size.states)) 16 1 (accepted (judge_of sh)))

unfoldable pub judging : List ℕ → ℕ → ℕ → Result Judgement
judging s board_room sequence_room = reads (reading s) (λ sh. judge_on sh board_room sequence_room)
