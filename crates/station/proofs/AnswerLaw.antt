-- Each way out of a call is a case of what it comes to.
use Rattle.lists.specs.Options.{coded}
use Prim.Native.Nat.{ℕ, ◌-◌, ◌<◌, ◌≤◌}
use native.Mathlib.Omega.{arith}
use mathlib.Core.Path.{◌≡◌, refl, sym, ◌∙◌, ap}
use mathlib.Core.Bool.{true, false}
use mathlib.Core.Option.{Option, none, some}
use mathlib.Core.List.{List}
use Rattle.std.specs.Prelude.{Result as Answer}
use Rattle.std.specs.Prelude.{Option as Maybe, Some, None, Ok, Err}
use borrow.Author.Tests.{lt-ltb, le-ltb}
use lib.Dec.{eqb, ltb}
use lib.ListN.{length}
use Rattle.lists.specs.laws.TestLaw.{never}
use Rattle.sheet.specs.Sheet.{Sheet}
use Rattle.sheet.specs.Reading.{Result, accepted, refused, reading}
use Rattle.station.specs.declared.Phase.{Phase}
use Rattle.station.specs.declared.Phase.TheVariants as phase
use Rattle.station.specs.declared.State.{State}
use Rattle.station.specs.declared.Step.TheVariants as step
use Rattle.station.specs.declared.Advanced.{Advanced}
use Rattle.station.specs.declared.Heard.{Heard}
use Rattle.sheet.specs.declared.Refusal.{Refusal}
use Rattle.sheet.specs.Tables.{refusal_of, answer_by}
use Rattle.station.specs.Station.{state_at, fresh, suited, beginning, current, element_at, input_at, onward, along, next_by, nexting, due_by, heard_as, taking, is_open, agrees_with, changing}
use Rattle.station.specs.Answers.{advanced_at, advanced_of, begun_answer, next_answer, heard_of, taken_answer, changed_answer}
use Rattle.station.specs.words.Parts.{suited_answer}

found_some : (o : Option ℕ) (x : ℕ) → coded o ≡ Some x → o ≡ some x
found_some none x e = never (cc)
found_some (some y) x e = let z : y ≡ x = cc in rw z refl

found_nothing : (o : Option ℕ) → coded o ≡ None → o ≡ none
found_nothing none e = refl
found_nothing (some y) e = never (cc)

-- ---- a first or a changed sheet
-- an answer that hands a refusal on
refuses : {A B : Type 0} (f : A → B) {x : Result A} {why : Refusal} {w : Answer B Refusal} → w ≡ Err why → x ≡ refused why.number why.place → w ≡ answer_by f x
refuses f k e = k ∙ sym (ap (answer_by f) e)

module _ (s : List ℕ) {r : Answer (Unit {0}) Refusal} (e : r ≡ suited_answer (suited s)) where
  pub suited-some : r ≡ Ok (tt {0}) → (sh : Sheet) × (suited s ≡ accepted sh)
  suited-some f = go (suited s) (sym e ∙ f)
    where
      go : (d : Result Sheet) → suited_answer d ≡ Ok (tt {0}) → (sh : Sheet) × (d ≡ accepted sh)
      go (accepted sh) h = (sh, refl)
      go (refused number place) h = never (cc)

  pub suited-none : {why : Refusal} → r ≡ Err why → suited s ≡ refused why.number why.place
  suited-none {why} f = go (suited s) (sym e ∙ f)
    where
      go : (d : Result Sheet) → suited_answer d ≡ Err why → d ≡ refused why.number why.place
      go (accepted sh) h = never (cc)
      go (refused n p) h = let a : refusal_of n p ≡ why = cc in ap (λ (w : Refusal). refused w.number w.place) a

  pub begin-at : r ≡ Ok (tt {0}) → Ok fresh ≡ begun_answer (beginning s)
  unfolding beginning
  begin-at f = rw (suited-some f).1 refl

  pub begin-refused : {why : Refusal} {w : Answer State Refusal} → r ≡ Err why → w ≡ Err why → w ≡ begun_answer (beginning s)
  unfolding beginning
  begin-refused f k = refuses _ k (rw (suited-none f) refl)

-- ---- next
module _ (sh : Sheet) (st : State) {r : Maybe ℕ} (e : r ≡ coded (element_at (current sh.tests st.begun) st.position)) where
  pub along-at : {x : ℕ} → r ≡ Some x → advanced_at (step.Input x) (state_at st.begun st.position phase.Due) ≡ advanced_of (along sh st (input_at sh st))
  unfolding input_at
  along-at {x} f = rw (found_some (element_at (current sh.tests st.begun) st.position) x (sym e ∙ f)) refl

  pub along-onward : {tests : ℕ} {a : Advanced} → r ≡ None → tests ≡ length sh.tests → a ≡ advanced_of (onward (ltb st.begun tests) st) →
      a ≡ advanced_of (along sh st (input_at sh st))
  unfolding input_at
  along-onward f et ea = ea ∙ rw (found_nothing (element_at (current sh.tests st.begun) st.position) (sym e ∙ f), et) refl

module _ (s : List ℕ) (st : State) where
  pub next-refused : {why : Refusal} {w : Answer Advanced Refusal} → reading s ≡ refused why.number why.place → w ≡ Err why → w ≡ next_answer (nexting s st)
  unfolding nexting
  next-refused e k = refuses _ k (rw e refl)

  pub next-given : (sh : Sheet) {a : Advanced} → reading s ≡ accepted sh → a ≡ advanced_of (next_by st.phase sh st) → Ok a ≡ next_answer (nexting s st)
  unfolding nexting
  next-given sh read e = ap Ok e ∙ rw read refl

-- ---- an output
module _ (s : List ℕ) (st : State) (o : ℕ) where
  pub take-refused : {why : Refusal} {w : Answer Heard Refusal} → reading s ≡ refused why.number why.place → w ≡ Err why → w ≡ taken_answer (taking s st o)
  unfolding taking
  take-refused e k = refuses _ k (rw e refl)

  module _ (sh : Sheet) (read : reading s ≡ accepted sh) {r : Maybe ℕ} (e : r ≡ coded (due_by st.phase sh st)) where
    pub take_none : {why : Refusal} → r ≡ None → why ≡ refusal_of 24 0 → Err why ≡ taken_answer (taking s st o)
    unfolding taking
    take_none f k = ap Err k ∙ rw (read, found_nothing (due_by st.phase sh st) (sym e ∙ f)) refl

    module _ {x : ℕ} (f : r ≡ Some x) where
      pub due-is : due_by st.phase sh st ≡ some x
      due-is = found_some (due_by st.phase sh st) x (sym e ∙ f)

      pub take-high : {m : ℕ} {why : Refusal} → m ≡ sh.size.outputs → m ≤ o → why ≡ refusal_of 24 0 → Err why ≡ taken_answer (taking s st o)
      unfolding taking
      take-high em l k = ap Err k ∙ rw (read, due-is, le-ltb o sh.size.outputs (omega arith)) refl

      pub take-heard : {m : ℕ} {a : Heard} → m ≡ sh.size.outputs → o < m → a ≡ heard_of (heard_as (eqb o x) st) → Ok a ≡ taken_answer (taking s st o)
      unfolding taking
      take-heard em l ea = ap Ok ea ∙ rw (read, due-is, lt-ltb o sh.size.outputs (omega arith)) refl

-- ---- a change
module _ (s : List ℕ) (st : State) (c : List ℕ) where
  pub change-refused : {why : Refusal} {w : Answer (Unit {0}) Refusal} → suited c ≡ refused why.number why.place → w ≡ Err why → w ≡ changed_answer (changing s st c)
  unfolding changing
  change-refused e k = refuses _ k (rw e refl)

  module _ (sh : Sheet) (e : suited c ≡ accepted sh) where
    pub change-closed : {why : Refusal} → is_open st.phase ≡ false → why ≡ refusal_of 23 0 → Err why ≡ changed_answer (changing s st c)
    unfolding changing
    change-closed f k = ap Err k ∙ rw (e, f) refl

    pub change-differs : {why : Refusal} → is_open st.phase ≡ true → agrees_with (reading s) sh st.begun ≡ false → why ≡ refusal_of 23 0 → Err why ≡ changed_answer (changing s st c)
    unfolding changing
    change-differs f g k = ap Err k ∙ rw (e, f, g) refl

    pub change-goes-on : is_open st.phase ≡ true → agrees_with (reading s) sh st.begun ≡ true → Ok (tt {0}) ≡ changed_answer (changing s st c)
    unfolding changing
    change-goes-on f g = rw (e, f, g) refl
