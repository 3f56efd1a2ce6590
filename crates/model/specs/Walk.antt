-- 02's Point 8: walks over the mutants that pass the suite, the conforming ones too.
use Rattle.std.specs.Prelude.{ℕ, ◌*◌, ◌≡◌, Bool, true, false, ◌&&◌, cond, ◌⊎◌, List, [], ◌∷◌, ltb, length}
use Rattle.std.proofs.Math.Option.{Option, none, some}
use Rattle.lists.specs.Lists.{is_none, Before, precedes}
use Rattle.sheet.specs.Sheet.{Sheet}
use Rattle.sheet.specs.Reading.{Result, accepted, reading}
use Rattle.model.specs.Mutant.{slots, mutants, IsMutant}
use Rattle.model.specs.Suite.{first_failed_of, Passes, compare_of, Judgement, complete, or_else}
use Rattle.model.specs.Operations.{reads, refuse_if, with_mutant}
use Rattle.model.specs.Verdict.{ComparedMeans}

-- a walk's place: its start, the last mutant taken, or its end
pub data Standing : Type 0 where
  start : Standing
  after : List ℕ → Standing
  end : Standing

-- the elements that pass a test
unfoldable pub keep : {A : Type 0} → (A → Bool) → List A → List A
keep p [] = []
keep p (x ∷ xs) = let more = keep p xs in cond (p x) (x ∷ more) more

-- the mutant stands after the place; the same, computed
abbrev pub Later : Standing → List ℕ → Type 0
Later start b = Unit {0}
Later (after l) b = Before l b
Later end b = ⊥

abbrev pub is_later : Standing → List ℕ → Bool
is_later start b = true
is_later (after l) b = precedes l b
is_later end b = false

abbrev pub passes : Sheet → List ℕ → Bool
passes sh b = is_none (first_failed_of sh b)

-- the mutants that pass the suite and stand after the place, in dictionary order
unfoldable pub rest : Sheet → Standing → List (List ℕ)
rest sh place = keep (λ b. passes sh b && is_later place b) (mutants sh)

-- a mutant, with compare's answer
pub record Taken : Type 0 where
  pub mutant : List ℕ
  pub compared : Option (List ℕ)

abbrev pub first_taken : Sheet → List (List ℕ) → Option Taken
first_taken sh [] = none
first_taken sh (b ∷ bs) = some (record { mutant = b; compared = compare_of sh b })

-- a take from a place: the first of the rest, or the end
unfoldable pub take_of : Sheet → Standing → Option Taken
take_of sh place = first_taken sh (rest sh place)

-- the first nonconforming one of some mutants
unfoldable pub departing : Sheet → List (List ℕ) → Judgement
departing sh [] = complete
departing sh (b ∷ bs) = let more = departing sh bs in or_else b (compare_of sh b) more

-- 13 and 14 of the last mutant taken
abbrev pub with_standing : {A : Type 0} → Sheet → Standing → Result A → Result A
with_standing sh start r = r
with_standing sh (after l) r = with_mutant sh l r
with_standing sh end r = r

-- Take: 13 and 14 of the last mutant, then 16 as for judge, also at the end
unfoldable pub take_on : Sheet → Standing → ℕ → ℕ → Result (Option Taken)
take_on sh place board_room sequence_room =
    with_standing sh place
    (refuse_if (ltb board_room (length (slots sh))) 16 0
    (refuse_if (ltb sequence_room (sh.size.states * sh.size.states)) 16 1 (accepted (take_of sh place))))

unfoldable pub taking : List ℕ → Standing → ℕ → ℕ → Result (Option Taken)
taking s place board_room sequence_room = reads (reading s) (λ sh. take_on sh place board_room sequence_room)

-- ---- what it means
-- a mutant that passes the suite and stands after the place
pub record Remains (sh : Sheet) (place : Standing) (b : List ℕ) : Type 0 where
  pub is : IsMutant sh b
  pub passes : Passes sh b
  pub later : Later place b

-- it is one, and every other stands after it
pub record FirstRemaining (sh : Sheet) (place : Standing) (b : List ℕ) : Type 0 where
  pub remains : Remains sh place b
  pub least : (c : List ℕ) → Remains sh place c → (c ≡ b) ⊎ Before b c

-- 02: the next passing board in dictionary order, with the answer of compare, or the end
abbrev pub TakenMeans : Sheet → Standing → Option Taken → Type 0
TakenMeans sh place none = (b : List ℕ) → Remains sh place b → ⊥
TakenMeans sh place (some t) = FirstRemaining sh place t.mutant × ComparedMeans sh t.mutant t.compared
