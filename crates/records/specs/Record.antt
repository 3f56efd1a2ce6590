-- A lock's own record (02, Point 9): when it is refused, where it first differs from the specification, and which mutants give it.
use Rattle.std.specs.Prelude.{ℕ, zero, suc, ◌*◌, Bool, true, false, ◌&&◌, not, cond, List, [], ◌∷◌, eqb, ltb, length, get_or}
use Rattle.std.proofs.Math.Option.{Option, none, some}
use Rattle.lists.specs.Lists.{is_none}
use Rattle.sheet.specs.Sheet.{Sheet}
use Rattle.sheet.specs.Reading.{Result, accepted, refused, reading}
use Rattle.model.specs.Machine.{Move}
use Rattle.model.specs.Mutant.{rule, slots, mutants, step, initial}
use Rattle.model.specs.Operations.{reads, refuse_if}
use Rattle.model.specs.Log.{Observation, failed_in}
use Rattle.model.specs.Walk.{keep, Taken, first_taken}
use Rattle.block.specs.Logged.{observations}

-- ---- 20
-- a SEEN (17) is whole and in range: an input below k and an output below m follow
abbrev pub in_range : ℕ → ℕ → List ℕ → Bool
in_range k m rest = ltb 1 (length rest) && ltb (get_or rest 0 0) k && ltb (get_or rest 1 0) m

-- the command at the front is a PULSE (16), or a SEEN after some PULSE that is whole and in range
abbrev pub is_command : ℕ → ℕ → Bool → ℕ → List ℕ → Bool
is_command k m pulsed v rest = cond (eqb v 16) true (eqb v 17 && pulsed && in_range k m rest)

-- the offset of the first command that is cut, unknown, out of range, or a SEEN before any PULSE: from an offset on, whether there was
-- a PULSE, and with that many bytes still to come of the command before
unfoldable pub broken_from : ℕ → ℕ → Bool → ℕ → ℕ → List ℕ → Option ℕ
broken_from k m pulsed left at [] = none
broken_from k m pulsed (suc left) at (v ∷ rest) = broken_from k m pulsed left (suc at) rest
broken_from k m pulsed zero at (v ∷ rest) =
    let more = broken_from k m true (cond (eqb v 16) 0 2) (suc at) rest in
    cond (is_command k m pulsed v rest) more (some at)

unfoldable pub broken_in : Sheet → List ℕ → Option ℕ
broken_in sh log = broken_from sh.size.inputs sh.size.outputs false 0 0 log

-- ---- the specification along a record
-- the specified transition at an input; the specification's state is none before any PULSE and after an undefined input
abbrev pub specified_at : (ℕ → ℕ → Option Move) → Option ℕ → ℕ → Option Move
specified_at rule none x = none
specified_at rule (some s) x = rule s x

abbrev pub target_of : Option Move → Option ℕ
target_of none = none
target_of (some r) = some r.target

-- the specification's state after the byte v, before the bytes `rest`: a PULSE sets it to 0, a SEEN moves it
abbrev pub advance : (ℕ → ℕ → Option Move) → Option ℕ → ℕ → List ℕ → Option ℕ
advance rule p v rest = cond (eqb v 16) (some 0) (cond (eqb v 17) (target_of (specified_at rule p (get_or rest 0 0))) p)

-- the byte v is a SEEN whose output differs from the specified one
abbrev pub differs : Option Move → ℕ → Bool
differs none o = false
differs (some r) o = not (eqb r.output o)

abbrev pub is_wrong : (ℕ → ℕ → Option Move) → Option ℕ → ℕ → List ℕ → Bool
is_wrong rule p v rest = eqb v 17 && differs (specified_at rule p (get_or rest 0 0)) (get_or rest 1 0)

-- the offset of the first such SEEN
unfoldable pub differs_from : (ℕ → ℕ → Option Move) → Option ℕ → ℕ → List ℕ → Option ℕ
differs_from rule p at [] = none
differs_from rule p at (v ∷ rest) =
    let more = differs_from rule (advance rule p v rest) (suc at) rest in
    cond (is_wrong rule p v rest) (some at) more

unfoldable pub differs_in : Sheet → List ℕ → Option ℕ
differs_in sh log = differs_from (rule sh) none 0 log

-- ---- the mutants that give a record
abbrev pub gives : Sheet → List ℕ → List Observation → Bool
gives sh b l = is_none (failed_in (step sh b) (initial sh b) (initial sh b) 0 0 l)

-- in dictionary order
unfoldable pub giving : Sheet → List Observation → List (List ℕ)
giving sh l = keep (λ b. gives sh b l) (mutants sh)

-- the first, with compare's answer
unfoldable pub first_giving : Sheet → List ℕ → Option Taken
first_giving sh log = first_taken sh (giving sh (observations log))

-- ---- the operations
-- the first SEEN that differs from the specification, and whether some mutant gives every output
pub record Outcome : Type 0 where
  pub first : Option ℕ
  pub given : Bool

unfoldable pub outcome_of : Sheet → List ℕ → Outcome
outcome_of sh log = record { first = differs_in sh log; given = not (is_none (first_giving sh log)) }

-- 20 at the first broken command
abbrev pub with_record : {A : Type 0} → Option ℕ → Result A → Result A
with_record none r = r
with_record (some at) r = refused 20 at

-- Check a record: 20
unfoldable pub checking : List ℕ → List ℕ → Result Outcome
checking s log = reads (reading s) (λ sh. with_record (broken_in sh log) (accepted (outcome_of sh log)))

-- Explain a record: 20, then 16 as for judge
unfoldable pub explain_on : Sheet → List ℕ → ℕ → ℕ → Result (Option Taken)
explain_on sh log board_room sequence_room =
    with_record (broken_in sh log)
    (refuse_if (ltb board_room (length (slots sh))) 16 0
    (refuse_if (ltb sequence_room (sh.size.states * sh.size.states)) 16 1 (accepted (first_giving sh log))))

unfoldable pub explaining : List ℕ → List ℕ → ℕ → ℕ → Result (Option Taken)
explaining s log board_room sequence_room = reads (reading s) (λ sh. explain_on sh log board_room sequence_room)
