-- Reading: 01's checks, command by command, in its order.
use Rattle.std.specs.Prelude.{ℕ, zero, suc, ◌+◌, Bool, true, false, not, ◌&&◌, cond, List, [], ◌∷◌, ◌++◌, leb, ltb, eqb, length, get_or}
use Rattle.std.proofs.Math.Option.{Option, none, some}
use Rattle.sheet.specs.declared.Row.{Row}
use Rattle.sheet.specs.declared.Size.{Size}
use Rattle.sheet.specs.declared.Summary.{Summary}
use Rattle.lists.specs.Lists.{maybe, is_none, last, precedes}
use Rattle.sheet.specs.Sheet.{Sheet, pair_of, row_of, rule_at, after, all_reached, open_slots}

-- an answer, or a refusal's number and place
pub data Result (A : Type 0) : Type 0 where
  accepted : A → Result A
  refused : ℕ → ℕ → Result A

abbrev pub Reading : Type 0
Reading = Result Sheet

pub data Command : Type 0 where
  size : Size → Command
  quiet : Command
  rule : Row → Command
  fault : Row → Command
  start : ℕ → Command
  test : Command
  press : ℕ → Command
  end : Command

-- How far a sheet has come, by rank.
abbrev pub unsized : ℕ
unsized = 0

abbrev pub sized : ℕ
sized = 1

abbrev pub quieted : ℕ
quieted = 2

abbrev pub ruled : ℕ
ruled = 3

abbrev pub faulted : ℕ
faulted = 4

abbrev pub started : ℕ
started = 5

abbrev pub testing : ℕ
testing = 6

-- the phase that a command but END leads to, by its byte
abbrev pub phase_after : ℕ → ℕ
phase_after b = cond (eqb b 1) sized (cond (eqb b 2) ruled (cond (eqb b 3) faulted (cond (eqb b 7) started (cond (eqb b 8) quieted testing))))

abbrev pub during : ℕ → ℕ → ℕ → Bool
during earliest latest phase = leb earliest phase && leb phase latest

-- one SIZE, at most one QUIET, RULEs, FAULTs, STARTs, tests (a TEST with its PRESSes), one END: the phases in which a command byte may stand
abbrev pub allowed : ℕ → ℕ → Bool
allowed phase b =
    cond (eqb b 1) (during unsized unsized phase)
    (cond (eqb b 2) (during sized ruled phase)
    (cond (eqb b 3) (during sized faulted phase)
    (cond (eqb b 4) (during sized testing phase)
    (cond (eqb b 5) (during testing testing phase)
    (cond (eqb b 6) (during sized testing phase)
    (cond (eqb b 7) (during sized started phase)
    (cond (eqb b 8) (during sized sized phase)
    false)))))))

-- a command's bytes, its own byte among them
abbrev pub width : ℕ → ℕ
width b = cond (eqb b 1) 4 (cond (eqb b 2) 5 (cond (eqb b 3) 5 (cond (eqb b 5) 2 (cond (eqb b 7) 2 1))))

abbrev pub row_at : List ℕ → ℕ → Row
row_at s at =
    record { source = get_or s (at + 1) 0; input = get_or s (at + 2) 0; output = get_or s (at + 3) 0; target = get_or s (at + 4) 0 }

abbrev pub size_at : List ℕ → ℕ → Size
size_at s at = record { states = get_or s (at + 1) 0; inputs = get_or s (at + 2) 0; outputs = get_or s (at + 3) 0 }

-- the command with the byte b at a place
abbrev pub command_of : ℕ → List ℕ → ℕ → Command
command_of b s at =
    cond (eqb b 1) (size (size_at s at))
    (cond (eqb b 2) (rule (row_at s at))
    (cond (eqb b 3) (fault (row_at s at))
    (cond (eqb b 4) test
    (cond (eqb b 5) (press (get_or s (at + 1) 0))
    (cond (eqb b 7) (start (get_or s (at + 1) 0))
    (cond (eqb b 8) quiet
    end))))))

-- of tests in order, each with its number, the number of the first that is true; 0 for none
unfoldable pub first_broken : List (Bool × ℕ) → ℕ
first_broken [] = 0
first_broken (c ∷ rest) = let later = first_broken rest in cond c.0 c.1 later

abbrev pub in_one_to16 : ℕ → Bool
in_one_to16 n = leb 1 n && leb n 16

abbrev pub size_in_range : Size → Bool
size_in_range z = in_one_to16 z.states && (in_one_to16 z.inputs && in_one_to16 z.outputs)

abbrev pub in_range : Size → Row → Bool
in_range z r =
    (ltb r.source z.states && ltb r.input z.inputs) && (ltb r.output z.outputs && ltb r.target z.states)

-- the row stands after the last of the rows
unfoldable pub ascends : (Row → List ℕ) → List Row → Row → Bool
ascends key rows r = maybe (last rows) true (λ q. precedes (key q) (key r))

-- the state stands after the last of the states
unfoldable pub rises : List ℕ → ℕ → Bool
rises starts t = maybe (last starts) true (λ s. ltb s t)

-- the RULE is there and is another
abbrev pub is_other : Option Row → Row → Bool
is_other none r = false
is_other (some q) r = not (eqb q.output r.output && eqb q.target r.target)

unfoldable pub last_test : List (List ℕ) → List ℕ
last_test tests = maybe (last tests) [] (λ xs. xs)

-- the RULE at the state that a test has reached
unfoldable pub rule_after : List Row → List ℕ → ℕ → Option Row
rule_after rules xs x = maybe (after rules 0 xs) none (λ s. rule_at rules s x)

-- the first broken rule of a command, 0 for none
unfoldable pub refusal : Sheet → Command → ℕ
refusal sh (size z) = first_broken ((not (size_in_range z), 4) ∷ [])
refusal sh quiet = 0
refusal sh (rule r) = first_broken ((not (in_range sh.size r), 5) ∷ (not (ascends pair_of sh.rules r), 6) ∷ [])
refusal sh (fault r) =
    first_broken
    ((not (in_range sh.size r), 5)
    ∷ (not (ascends row_of sh.faults r), 6)
    ∷ (not (is_other (rule_at sh.rules r.source r.input) r), 7)
    ∷ (leb 256 (length sh.faults), 8)
    ∷ [])
refusal sh (start t) =
    first_broken ((leb sh.size.states t, 5) ∷ (not (rises sh.starts t), 6) ∷ (eqb t 0, 7) ∷ [])
refusal sh test = first_broken ((leb 256 (length sh.tests), 8) ∷ [])
refusal sh (press x) =
    first_broken
    ((leb sh.size.inputs x, 5)
    ∷ (leb 256 (length (last_test sh.tests)), 8)
    ∷ (is_none (rule_after sh.rules (last_test sh.tests) x), 9)
    ∷ [])
refusal sh end = 0

-- x at the end of the last test
unfoldable pub add_press : List (List ℕ) → ℕ → List (List ℕ)
add_press [] x = []
add_press (xs ∷ []) x = (xs ++ x ∷ []) ∷ []
add_press (xs ∷ ys ∷ l) x = xs ∷ add_press (ys ∷ l) x

-- the sheet with a part replaced
abbrev pub with_size : Sheet → Size → Sheet
with_size sh z = record { size = z; quiet = sh.quiet; rules = sh.rules; faults = sh.faults; starts = sh.starts; tests = sh.tests }

abbrev pub with_quiet : Sheet → Sheet
with_quiet sh = record { size = sh.size; quiet = true; rules = sh.rules; faults = sh.faults; starts = sh.starts; tests = sh.tests }

abbrev pub with_rules : Sheet → List Row → Sheet
with_rules sh rules = record { size = sh.size; quiet = sh.quiet; rules = rules; faults = sh.faults; starts = sh.starts; tests = sh.tests }

abbrev pub with_faults : Sheet → List Row → Sheet
with_faults sh faults = record { size = sh.size; quiet = sh.quiet; rules = sh.rules; faults = faults; starts = sh.starts; tests = sh.tests }

abbrev pub with_starts : Sheet → List ℕ → Sheet
with_starts sh starts = record { size = sh.size; quiet = sh.quiet; rules = sh.rules; faults = sh.faults; starts = starts; tests = sh.tests }

abbrev pub with_tests : Sheet → List (List ℕ) → Sheet
with_tests sh tests = record { size = sh.size; quiet = sh.quiet; rules = sh.rules; faults = sh.faults; starts = sh.starts; tests = tests }

-- the sheet with one command more
unfoldable pub advance : Sheet → Command → Sheet
advance sh (size z) = with_size sh z
advance sh quiet = with_quiet sh
advance sh (rule r) = with_rules sh (sh.rules ++ r ∷ [])
advance sh (fault r) = with_faults sh (sh.faults ++ r ∷ [])
advance sh (start t) = with_starts sh (sh.starts ++ t ∷ [])
advance sh test = with_tests sh (sh.tests ++ [] ∷ [])
advance sh (press x) = with_tests sh (add_press sh.tests x)
advance sh end = sh

-- what is read so far
pub record Progress : Type 0 where
  pub phase : ℕ
  pub sheet : Sheet

-- after one command the reading goes on from what is read so far at the next place, or stops
pub data Outcome : Type 0 where
  go : Progress → ℕ → Outcome
  stop : Reading → Outcome

abbrev pub refuse_or : ℕ → ℕ → Reading → Reading
refuse_or number at r = cond (eqb number 0) r (refused number at)

-- at END: nothing may follow, every state is reached, at most 32 pairs are open (02: where a board wakes counts as one)
unfoldable pub finishing : Sheet → List ℕ → ℕ → Reading
finishing sh s at =
    cond (ltb (at + 1) (length s)) (refused 10 (at + 1))
    (refuse_or (first_broken ((not (all_reached sh), 11) ∷ (ltb 32 (open_slots sh), 12) ∷ [])) at (accepted sh))

-- a command whose byte may stand here and whose operands are there
unfoldable pub doing : Progress → List ℕ → ℕ → ℕ → Outcome
doing p s at b =
    cond (eqb b 6) (stop (finishing p.sheet s at))
    (cond (eqb (refusal p.sheet (command_of b s at)) 0)
    (go (record { phase = phase_after b; sheet = advance p.sheet (command_of b s at) }) (at + width b))
    (stop (refused (refusal p.sheet (command_of b s at)) at)))

-- one command: 2 if no command byte is there, 3 if it may not stand here, 2 if operands are missing, then its own rules
unfoldable pub one_command : Progress → List ℕ → ℕ → Outcome
one_command p s at =
    cond (leb (length s) at) (stop (refused 2 (length s)))
    (cond (not (allowed p.phase (get_or s at 0))) (stop (refused 3 at))
    (cond (ltb (length s) (at + width (get_or s at 0))) (stop (refused 2 at))
    (doing p s at (get_or s at 0))))

abbrev pub resume : Outcome → (Progress → ℕ → Reading) → Reading
resume (go p at) f = f p at
resume (stop r) f = r

-- the reading from a place on; each command takes a byte at least, so fuel of one more than the bytes never runs out (the
-- law `refusal-numbers`)
unfoldable pub from : ℕ → Progress → List ℕ → ℕ → Reading
from zero p s at = refused 0 0
from (suc fuel) p s at = resume (one_command p s at) (λ q next. from fuel q s next)

unfoldable pub blank : Progress
blank =
    record {
      phase = unsized;
      sheet = record { size = record { states = 0; inputs = 0; outputs = 0 }; quiet = false; rules = []; faults = []; starts = []; tests = [] };
    }

-- 01's Read: 1 before all else, then command by command
unfoldable pub reading : List ℕ → Reading
reading s = cond (ltb 16384 (length s)) (refused 1 16384) (from (length s + 1) blank s 0)

-- what reading an accepted sheet tells
unfoldable pub summary_of : Sheet → Summary
summary_of sh =
    record {
      states = sh.size.states;
      inputs = sh.size.inputs;
      outputs = sh.size.outputs;
      rules = length sh.rules;
      faults = length sh.faults;
      tests = length sh.tests;
      suspects = open_slots sh;
    }
