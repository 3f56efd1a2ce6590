-- One call of a walk: what a take and a test added leave.
use Rattle.std.specs.Prelude.{Result as Answer, Ok, Err, Some, None}
use Rattle.std.specs.Prelude.{◌*◌, ◌≤◌, ◌≡◌, ◌∷◌, ◌++◌}
use Rattle.lists.specs.Proving.{ℕ, refl, ◌∙◌, ap, subst, Bool, true, false, Option, some, none, List, [], length, take, drop, ltb, le-ltb}
use mathlib.Core.List.Memᴰ
use Rattle.std.proofs.Common.{take_at}
use Rattle.lists.specs.Lists.{overlay}
use Rattle.sheet.specs.Sheet.{Sheet}
use Rattle.sheet.specs.Reading.{Result, accepted, refused, reading, with_tests}
use Rattle.sheet.specs.laws.AcceptedLaw.{well-formed}
use Rattle.sheet.specs.declared.Refusal.{Refusal}
use Rattle.machine.specs.Differences.{difference_of}
use Rattle.adding.specs.Adding.{add_on, adding, Adds}
use Rattle.adding.specs.laws.AddingLaw.{added-longer, written-front}
use Rattle.model.specs.Mutant.{slots, IsMutant}
use Rattle.model.specs.Compare.{found}
use Rattle.model.specs.Suite.{compare_of}
use Rattle.model.specs.Operations.{refuse_if}
use Rattle.model.specs.Longer.{with_test}
use Rattle.model.specs.Walk.{Standing, start, after, end, with_standing, rest, first_taken, take_of, take_on, taking}
use Rattle.model.specs.Walk.{Taken as Next}
use Rattle.model.proofs.laws.OperationLaw.{mutant-length, mutant-goes-on}
use Rattle.model.proofs.laws.LongerLaw.{slots-longer, mutant-shorter}
use Rattle.model.proofs.laws.WalkLaw.{rest-remains, rest_end}
use Rattle.walking.specs.Taking.{Taken, taken_answer, Takes, LastIs}
use Rattle.walking.specs.Walked.{TakeCall, AddCall, Walk, walk_at, place_after, sheet_after, Promised, shown, test_of, took, added}

-- a walk stands over an accepted sheet with mutants of n choices, at a place of it
pub record Stands (sh : Sheet) (n : ℕ) (w : Walk) : Type 0 where
  pub reads : reading w.sheet ≡ accepted sh
  pub many : length (slots sh) ≡ n
  pub last : LastIs sh w.place

-- ---- a take
pub goes_on : (sh : Sheet) (place : Standing) {A : Type 0} (r : Result A) → LastIs sh place → with_standing sh place r ≡ r
goes_on sh start r h = refl
goes_on sh (after l) r h = mutant-goes-on sh l r h
goes_on sh end r h = refl

-- what it leaves: nothing taken and the same place, where it is refused; the end; or the first of the rest
pub data Turn (sh : Sheet) (n : ℕ) (place : Standing) (t : TakeCall) : Type 0 where
  stays : place_after n place t.answer t.new_board ≡ place → shown n t.answer t.new_board t.new_sequence ≡ [] → Turn sh n place t
  ends : rest sh place ≡ [] → place_after n place t.answer t.new_board ≡ end → shown n t.answer t.new_board t.new_sequence ≡ [] → Turn sh n place t
  goes : (b : List ℕ) (bs : List (List ℕ)) → rest sh place ≡ b ∷ bs → place_after n place t.answer t.new_board ≡ after b →
      shown n t.answer t.new_board t.new_sequence ≡ record { mutant = b; compared = compare_of sh b } ∷ [] → Turn sh n place t

module _ (sh : Sheet) (n : ℕ) (place : Standing) (many : length (slots sh) ≡ n) (t : TakeCall) where
  -- what a take answers
  abbrev By : Result (Option Next) → Type 0
  By o = Takes o t.answer t.board t.new_board t.sequence t.new_sequence

  stay : {number spot : ℕ} → By (refused number spot) → Turn sh n place t
  stay ts = stays (rw ts.answer refl) (rw ts.answer refl)

  turn-first : (bs : List (List ℕ)) → rest sh place ≡ bs → By (accepted (first_taken sh bs)) → Turn sh n place t
  turn-first [] e ts = ends e (rw ts.answer refl) (rw ts.answer refl)
  turn-first (b ∷ bs) e ts = one (compare_of sh b) refl
    where
      is : IsMutant sh b
      is = (rest-remains sh place {b = b} (rw e (Memᴰ.head refl))).is

      front : take n t.new_board ≡ b
      front = rw ts.board (take_at b (drop (length b) t.board) n (mutant-length sh b is ∙ many))

      shows : Option (List ℕ) → Taken
      shows o = Ok (Some (difference_of o))

      one : (o : Option (List ℕ)) → compare_of sh b ≡ o → Turn sh n place t
      one none eo =
          let ea : t.answer ≡ Ok (Some None) = ts.answer ∙ ap shows eo in
          goes b bs e (rw (ea, front) refl) (rw (ea, front, eo) refl)
      one (some xs) eo =
          let ea : t.answer ≡ Ok (Some (Some (length xs))) = ts.answer ∙ ap shows eo in
          let es : t.new_sequence ≡ overlay xs t.sequence = ts.sequence ∙ ap (λ (o : Option (List ℕ)). overlay (found o) t.sequence) eo in
          let ex : take (length xs) t.new_sequence ≡ xs = rw es (take_at xs (drop (length xs) t.sequence) (length xs) refl) in
          goes b bs e (rw (ea, front) refl) (rw (ea, front, ex, eo) refl)

  turn_on : (short : Bool) (less : Bool) → By (refuse_if short 16 0 (refuse_if less 16 1 (accepted (take_of sh place)))) → Turn sh n place t
  unfolding take_of
  turn_on true less ts = stay ts
  turn_on false true ts = stay ts
  turn_on false false ts = turn-first (rest sh place) refl ts

taking-on : (sh : Sheet) (s : List ℕ) (place : Standing) → reading s ≡ accepted sh → LastIs sh place → (rb rs : ℕ) →
    taking s place rb rs ≡ refuse_if (ltb rb (length (slots sh))) 16 0 (refuse_if (ltb rs (sh.size.states * sh.size.states)) 16 1 (accepted (take_of sh place)))
unfolding taking take_on
taking-on sh s place e li rb rs = rw e (goes_on sh place _ li)

pub turned : {sh : Sheet} {n : ℕ} {w : Walk} → Stands sh n w → (t : TakeCall) → Promised w (took t) → Turn sh n w.place t
turned {sh} {n} {w} st t ts =
    turn_on sh n w.place st.many t (ltb (length t.board) (length (slots sh))) (ltb (length t.sequence) (sh.size.states * sh.size.states))
    (subst (λ (o : Result (Option Next)). Takes o t.answer t.board t.new_board t.sequence t.new_sequence) (taking-on sh w.sheet w.place st.reads st.last (length t.board) (length t.sequence)) ts)

-- a walk stands where it did, or at the mutant taken, or at the end
pub stands_on : {sh : Sheet} {n : ℕ} {w : Walk} → Stands sh n w → (t : TakeCall) → Turn sh n w.place t → Stands sh n (walk_at w.sheet (place_after n w.place t.answer t.new_board))
stands_on {sh} {n} {w} st t (stays e f) = record { reads = st.reads; many = st.many; last = rw e st.last }
stands_on {sh} {n} {w} st t (ends e f g) = record { reads = st.reads; many = st.many; last = rw f tt }
stands_on {sh} {n} {w} st t (goes b bs e f g) = record { reads = st.reads; many = st.many; last = rw f (rest-remains sh w.place {b = b} (rw e (Memᴰ.head refl))).is }

-- after the end, with room, it gives the end
pub end-given : {sh : Sheet} {n : ℕ} {w : Walk} → Stands sh n w → w.place ≡ end → (t : TakeCall) → Promised w (took t) → length (slots sh) ≤ length t.board → sh.size.states * sh.size.states ≤ length t.sequence → t.answer ≡ Ok None
unfolding take_of
end-given {sh} {n} {w} st e t ts lb ls =
    let h = le-ltb (length t.board) (length (slots sh)) lb in
    let g = le-ltb (length t.sequence) (sh.size.states * sh.size.states) ls in
    let none_left : rest sh w.place ≡ [] = ap (rest sh) e ∙ rest_end sh in
    ts.answer ∙ ap taken_answer (taking-on sh w.sheet w.place st.reads st.last (length t.board) (length t.sequence)) ∙ rw (h, g, none_left) refl

-- ---- a test added
-- the sheet stays, or is the longer one
pub data Outcome (sh : Sheet) (n : ℕ) (w : Walk) (a : AddCall) : Type 0 where
  keeps : test_of a.answer a.presses ≡ [] → Stands sh n (walk_at (sheet_after w.sheet a.answer a.new_buffer) w.place) → Outcome sh n w a
  grows : test_of a.answer a.presses ≡ a.presses ∷ [] → Stands (with_test sh a.presses) n (walk_at (sheet_after w.sheet a.answer a.new_buffer) w.place) → Outcome sh n w a

last-longer : (sh : Sheet) (ts : List (List ℕ)) (place : Standing) → LastIs sh place → LastIs (with_tests sh ts) place
last-longer sh ts start h = tt
last-longer sh ts (after l) h = mutant-shorter sh ts l h
last-longer sh ts end h = tt

adding-on : (sh : Sheet) (s : List ℕ) → reading s ≡ accepted sh → (xs : List ℕ) (room : ℕ) → adding s xs room ≡ add_on sh xs room
unfolding adding
adding-on sh s e xs room = rw e refl

pub grow : {sh : Sheet} {n : ℕ} {w : Walk} → Stands sh n w → (a : AddCall) → Promised w (added a) → Outcome sh n w a
grow {sh} {n} {w} st a ad = one a.answer refl
  where
    one : (r : Answer ℕ Refusal) → a.answer ≡ r → Outcome sh n w a
    one (Ok m) e =
        let done = written-front (add_on sh a.presses (length a.buffer)) (subst (λ (o : Result (List ℕ)). Adds o a.answer a.buffer a.new_buffer) (adding-on sh w.sheet st.reads a.presses (length a.buffer)) ad) m e in
        let more = added-longer sh a.presses (length a.buffer) (well-formed w.sheet sh st.reads) (take m a.new_buffer) done in
        grows (rw e refl)
        (record {
          reads = rw e more.reads;
          many = ap length (slots-longer sh (sh.tests ++ a.presses ∷ [])) ∙ st.many;
          last = last-longer sh (sh.tests ++ a.presses ∷ []) w.place st.last;
        })
    one (Err why) e = keeps (rw e refl) (rw e st)
