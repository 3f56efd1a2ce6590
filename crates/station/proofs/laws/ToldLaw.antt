-- What the answers of the station's calls tell.
use Rattle.std.specs.Prelude.{Result as Answer}
use Rattle.std.specs.Prelude.{Ok, Err}
use Rattle.std.specs.Prelude.{ℕ, ◌-◌, ◌<◌, ◌≡◌, Bool, true, false, not, ◌&&◌, ◌⊎◌, List, [], ◌∷◌, ◌++◌, eqb, ltb, length}
use Rattle.std.proofs.Math.Path.{refl}
use Rattle.std.proofs.Common.{sym, ◌∙◌, ap, subst, inl, inr, ⊎_elim, ltb-true}
use Rattle.std.proofs.Math.Option.{Option, none, some}
use Rattle.lists.specs.laws.TestLaw.{never}
use Rattle.sheet.specs.Sheet.{Sheet}
use Rattle.sheet.specs.Reading.{Result, accepted, refused, reading}
use Rattle.model.specs.Suite.{Place, Judgement, complete, survivor, judge_of}
use Rattle.model.specs.Operations.{refuse_if}
use Rattle.model.specs.Implementation.{Guaranteed}
use Rattle.model.specs.Verdict.{Complete}
use Rattle.model.proofs.laws.Demands.{judged-told, complete-told}
use Rattle.station.specs.declared.Phase.{Phase}
use Rattle.station.specs.declared.Phase.TheVariants as phase
use Rattle.station.specs.declared.State.{State}
use Rattle.station.specs.declared.Step.{Step}
use Rattle.station.specs.declared.Step.TheVariants as step
use Rattle.station.specs.declared.Advanced.{Advanced}
use Rattle.station.specs.declared.Heard.{Heard as HeardAnswer}
use Rattle.sheet.specs.declared.Refusal.{Refusal}
use Rattle.sheet.specs.Tables.{refusal_of}
use Rattle.logs.specs.Walked.{wrong_of}
use Rattle.station.specs.Station.{state_at, fresh, is_complete, suited, beginning, input_at, Given, onward, along, next_by, nexting, Heard, heard_as, place_of, due_by, take_by, taking, agrees, Agree, is_open, changing}
use Rattle.station.specs.Answers.{begun_answer, advanced_at, advanced_of, next_answer, heard_of, taken_answer, changed_answer}
use Rattle.station.specs.Calls.{Call, next, take-output, sheet_of, state_of, Answered, sheet_left, state_left, Chained, History, last_sheet, last_state, due_in, GivesPass, GivesFailure, Some, RightMeans, PassMeans, FailureMeans}
use Rattle.station.specs.Told.{BegunSays, ToldBegun, StepSays, AdvancedSays, NextSays, ToldNext, BelowOutputs, HeardSays, TakenSays, ToldTaken, ChangedSays, ToldChanged}
use Rattle.station.proofs.laws.ProgressLaw.{current-agree}
use Rattle.station.proofs.laws.AgreeLaw.{agrees-true, true-agrees}
use Rattle.station.proofs.laws.VerdictLaw.{next-left, take_left}
use Rattle.station.proofs.laws.PassedLaw.{front-told, right-told, due-told, taken-due, refused-told, passed-last, failed-last, pass-told, failure-told}

-- ---- a first or a changed sheet
module _ (s : List ℕ) (sh : Sheet) (read : reading s ≡ accepted sh) where
  suited-on : (j : Judgement) → judge_of sh ≡ j → suited s ≡ refuse_if (not (is_complete j)) 22 0 (accepted sh)
  unfolding suited
  suited-on j e = rw (read, e) refl

  suited-complete : Complete sh → suited s ≡ accepted sh
  suited-complete h = suited-on complete ((complete-told s sh read).1 h)

  suited-incomplete : (Complete sh → ⊥) → suited s ≡ refused 22 0
  suited-incomplete h = go (judge_of sh) refl
    where
      go : (j : Judgement) → judge_of sh ≡ j → suited s ≡ refused 22 0
      go complete e = absurd (h ((complete-told s sh read).0 e))
      go (survivor b xs) e = suited-on (survivor b xs) e

  -- complete, or refused with 22
  complete-or : (Complete sh × (suited s ≡ accepted sh)) ⊎ (suited s ≡ refused 22 0)
  complete-or = go (judge_of sh) refl
    where
      go : (j : Judgement) → judge_of sh ≡ j → (Complete sh × (suited s ≡ accepted sh)) ⊎ (suited s ≡ refused 22 0)
      go complete e = inl ((complete-told s sh read).0 e, suited-on complete e)
      go (survivor b xs) e = inr (suited-on (survivor b xs) e)

pub begun-told : (s : List ℕ) (r : Answer State Refusal) → r ≡ begun_answer (beginning s) → ToldBegun s r
unfolding ToldBegun beginning
begun-told s r e sh read = go (complete-or s sh read)
  where
    go : (Complete sh × (suited s ≡ accepted sh)) ⊎ (suited s ≡ refused 22 0) → BegunSays sh r
    go (inl (all, is)) =
        let at : r ≡ Ok fresh = e ∙ rw is refl in
        let means : Complete sh × Guaranteed sh = rw ((complete-told s sh read).1 all) at (judged-told s sh read) in
        record { begins = λ h. at; only = λ h. means; otherwise = λ h. absurd (h all) }
    go (inr is) =
        let at : r ≡ Err (refusal_of 22 0) = e ∙ rw is refl in
        record {
          begins = λ h. let z = suited-complete s sh read h in never (cc);
          only = λ h. never (cc);
          otherwise = λ h. at;
        }

-- ---- a reset, an input or a right output leaves no verdict
abbrev is_given : Step → Bool
is_given step.Reset = true
is_given (step.Input x) = true
is_given step.Pass = false
is_given (step.Failure t i) = false

along-open : (sh : Sheet) (st : State) (o : Option ℕ) → is_given (along sh st o).step ≡ true → is_open (along sh st o).state.phase ≡ true
along-open sh st none e = go (ltb st.begun (length sh.tests)) e
  where
    go : (b : Bool) → is_given (onward b st).step ≡ true → is_open (onward b st).state.phase ≡ true
    go true e = refl
    go false e = never (cc)
along-open sh st (some x) e = refl

given-open : (sh : Sheet) (st : State) (p : Phase) → is_given (next_by p sh st).step ≡ true → is_open (next_by p sh st).state.phase ≡ true
given-open sh st phase.Ready e = along-open sh st (input_at sh st) e
given-open sh st phase.Due e = along-open sh st (input_at sh st) e
given-open sh st phase.Passed e = never (cc)
given-open sh st phase.Failed e = never (cc)

next-open : (s : List ℕ) (st : State) (g : Given) → nexting s st ≡ accepted g → is_given g.step ≡ true → is_open g.state.phase ≡ true
next-open s st g eg e = let k = next-left s st g eg in rw k.1 (given-open k.0 st st.phase (rw k.1 at e))

heard-open : (b : Bool) (st : State) → (heard_as b st).failure ≡ none → is_open (heard_as b st).state.phase ≡ true
heard-open true st e = refl
heard-open false st e = never (cc)

take_open : (s : List ℕ) (st : State) (o : ℕ) (x : Heard) → taking s st o ≡ accepted x → x.failure ≡ none → is_open x.state.phase ≡ true
take_open s st o x ex e = let k = take_left s st o x ex in rw k.3 (heard-open (eqb o k.1) st (rw k.3 at e))

-- ---- one call more
chained_more : (calls : List Call) (c : Call) (s : List ℕ) (st : State) → Chained s st calls → sheet_of c ≡ last_sheet s calls → state_of c ≡ last_state st calls → Answered c →
    Chained s st (calls ++ c ∷ [])
unfolding Chained last_sheet last_state
chained_more [] c s st h es et a = (es, et, a, tt)
chained_more (k ∷ calls) c s st h es et a = (h.0, h.1, h.2, chained_more calls c (sheet_left k) (state_left k) h.3 es et a)

last_more : (calls : List Call) (c : Call) (st : State) → last_state st (calls ++ c ∷ []) ≡ state_left c
unfolding last_state
last_more [] c st = refl
last_more (k ∷ calls) c st = last_more calls c (state_left k)

some_more : (P : Call → Type 0) (calls : List Call) (c : Call) → P c → Some P (calls ++ c ∷ [])
unfolding Some
some_more P [] c p = inl p
some_more P (k ∷ calls) c p = inr (some_more P calls c p)

module _ (first : List ℕ) (calls : List Call) (h : History first calls) (c : Call) (es : last_sheet first calls ≡ sheet_of c) (et : last_state h.start calls ≡ state_of c) (a : Answered c) where
  more : History first (calls ++ c ∷ [])
  more = record { start = h.start; begins = h.begins; chained = chained_more calls c first h.start h.chained (sym es) (sym et) a }

  right-more : is_open (state_left c).phase ≡ true → RightMeans first (calls ++ c ∷ [])
  right-more o = right-told first (calls ++ c ∷ []) more (subst (λ (q : State). is_open q.phase ≡ true) (sym (last_more calls c more.start)) o)

  pass-more : GivesPass c → PassMeans first (calls ++ c ∷ [])
  pass-more p = pass-told first (calls ++ c ∷ []) more (some_more GivesPass calls c p)

  failure-more : (f : Place) → GivesFailure f c → FailureMeans first (calls ++ c ∷ []) f
  failure-more f p = failure-told first (calls ++ c ∷ []) more f (some_more (GivesFailure f) calls c p)

-- an output that is taken is below m
below : (s : List ℕ) (st : State) (o : ℕ) (g : Heard) → taking s st o ≡ accepted g → BelowOutputs s o
unfolding taking
below s st o g e sh read = go (due_by st.phase sh st) (ltb o sh.size.outputs) refl (rw read at e)
  where
    go : (d : Option ℕ) (b : Bool) → ltb o sh.size.outputs ≡ b → take_by d sh st o ≡ accepted g → o < sh.size.outputs
    go none b eb q = never (cc)
    go (some x) true eb q = ltb-true o sh.size.outputs eb
    go (some x) false eb q = let z = rw eb at q in never (cc)

module _ (s : List ℕ) (st : State) (first : List ℕ) (calls : List Call) (h : History first calls) (es : last_sheet first calls ≡ s) (et : last_state h.start calls ≡ st) where
  read-on : (sh : Sheet) × (reading s ≡ accepted sh)
  read-on = let f = front-told first calls h in (f.sheet, rw es at f.read)

  next-on : (sh : Sheet) → reading s ≡ accepted sh → (p : Phase) → st.phase ≡ p → nexting s st ≡ accepted (next_by p sh st)
  unfolding nexting
  next-on sh e p q = rw (e, q) refl

  next-step : (g : Given) → nexting s st ≡ accepted g → (q : Step) → g.step ≡ q → StepSays first (calls ++ next s st (accepted g) ∷ []) q
  next-step g eg step.Reset eq = right-more first calls h (next s st (accepted g)) es et (sym eg) (next-open s st g eg (rw eq refl))
  next-step g eg (step.Input x) eq = right-more first calls h (next s st (accepted g)) es et (sym eg) (next-open s st g eg (rw eq refl))
  next-step g eg step.Pass eq = pass-more first calls h (next s st (accepted g)) es et (sym eg) eq
  next-step g eg (step.Failure t i) eq = failure-more first calls h (next s st (accepted g)) es et (sym eg) (record { test = t; position = i }) eq

  next-given : (r : Result Given) → nexting s st ≡ r → AdvancedSays first (calls ++ next s st r ∷ []) (next_answer r)
  next-given (accepted g) eg = next-step g eg g.step refl
  next-given (refused number place) k = let z = next-on read-on.0 read-on.1 st.phase refl in never (cc)

  due-given : (sh : Sheet) (x : ℕ) → reading s ≡ accepted sh → st.phase ≡ phase.Due → input_at sh st ≡ some x → next_answer (nexting s st) ≡ Ok (advanced_at (step.Input x) st)
  due-given sh x er p i =
      ap next_answer (next-on sh er phase.Due p)
      ∙ ap (λ (o : Option ℕ). next_answer (accepted (along sh st o))) i
      ∙ ap (λ (q : Phase). Ok (advanced_at (step.Input x) (state_at st.begun st.position q))) (sym p)

  next-says : (r : Answer Advanced Refusal) → r ≡ next_answer (nexting s st) → NextSays first calls s st r
  next-says r e =
      record {
        given = subst (AdvancedSays first (calls ++ next s st (nexting s st) ∷ [])) (sym e) (next-given (nexting s st) refl);
        same-input =
            λ d.
            let f = front-told first calls h in
            let (x, before, got, p, i) = due-told first calls h d in
            (x, before, got, e ∙ due-given f.sheet x (rw es at f.read) (rw et at p) (rw et at i));
        pass-again = λ m. e ∙ ap next_answer (next-on read-on.0 read-on.1 phase.Passed (ap (λ (q : State). q.phase) (sym et) ∙ passed-last first calls h m));
        failure-again =
            λ f m.
            let k = failed-last first calls h f m in
            let is : place_of st ≡ f = rw et at k.1 in
            let t : st.begun - 1 ≡ f.test = ap (λ (p : Place). p.test) is in
            let i : st.position ≡ f.position = ap (λ (p : Place). p.position) is in
            e ∙ ap next_answer (next-on read-on.0 read-on.1 phase.Failed (ap (λ (q : State). q.phase) (sym et) ∙ k.0)) ∙ rw (t, i) refl;
      }

  take-given : (o : ℕ) (r : Result Heard) → taking s st o ≡ r → TakenSays first calls s st o (taken_answer r)
  take-given o (accepted g) eg = says g.failure refl
    where
      due : due_in calls ≡ true
      due = taken-due first calls h o g (rw (es, et) eg)

      low : BelowOutputs s o
      low = below s st o g eg

      says : (f : Option Place) → g.failure ≡ f → (due_in calls ≡ true) × BelowOutputs s o × HeardSays first (calls ++ take-output s st o (taking s st o) ∷ []) (wrong_of f)
      says none ef = (
        due,
        low,
        subst (λ (r : Result Heard). RightMeans first (calls ++ take-output s st o r ∷ [])) (sym eg)
            (right-more first calls h (take-output s st o (accepted g)) es et (sym eg) (take_open s st o g eg ef)),
      )
      says (some f) ef = (
        due,
        low,
        subst (λ (r : Result Heard). FailureMeans first (calls ++ take-output s st o r ∷ []) f) (sym eg)
            (failure-more first calls h (take-output s st o (accepted g)) es et (sym eg) f ef),
      )
  take-given o (refused number place) k =
      let is : taking (last_sheet first calls) (last_state h.start calls) o ≡ refused number place = rw (es, et) k in
      let told = refused-told first calls h o number place is in
      (told.0, told.1, ⊎_elim (λ d. inl d) (λ l. inr (λ sh e. let f = front-told first calls h in let same : f.sheet ≡ sh = same-as sh e in rw (← same) l)) told.2)
    where
      same-as : (sh : Sheet) → reading s ≡ accepted sh → (front-told first calls h).sheet ≡ sh
      same-as sh e = let f = front-told first calls h in let q : reading s ≡ accepted f.sheet = rw es at f.read in cc

pub next-told : (s : List ℕ) (st : State) (r : Answer Advanced Refusal) → r ≡ next_answer (nexting s st) → ToldNext s st r
unfolding ToldNext
next-told s st r e first calls h es et = next-says s st first calls h es et r e

pub taken-told : (s : List ℕ) (st : State) (o : ℕ) (r : Answer HeardAnswer Refusal) → r ≡ taken_answer (taking s st o) → ToldTaken s st o r
unfolding ToldTaken
taken-told s st o r e first calls h es et = subst (TakenSays first calls s st o) (sym e) (take-given s st first calls h es et o (taking s st o) refl)

-- ---- a change
pub changed-told : (s : List ℕ) (st : State) (c : List ℕ) (r : Answer (Unit {0}) Refusal) → r ≡ changed_answer (changing s st c) → ToldChanged s st c r
unfolding ToldChanged changing
changed-told s st c r e sh new read read-new = go (complete-or c new read-new)
  where
    press : Agree sh new st.begun → input_at new st ≡ input_at sh st
    press agree = unfold input_at in rw (current-agree sh.tests new.tests st.begun agree.tests) refl

    equal : Complete new → (a b : Bool) → is_open st.phase ≡ a → agrees sh new st.begun ≡ b → r ≡ changed_answer (refuse_if (not (a && b)) 23 0 (accepted st)) → ChangedSays sh new st r
    equal all true true ea eb q =
        let agree = agrees-true sh new st.begun eb in
        record { goes_on = λ x y z. q; only = λ x. (all, ea, agree); same-input = λ x. press agree; incomplete = λ x. absurd (x all); otherwise = λ x y. absurd (y ea agree) }
    equal all true false ea eb q =
        record {
          goes_on = λ x y z. let w = true-agrees sh new st.begun z in never (cc);
          only = λ x. never (cc);
          same-input = λ x. never (cc);
          incomplete = λ x. absurd (x all);
          otherwise = λ x y. q;
        }
    equal all false b ea eb q =
        record { goes_on = λ x y z. never (cc); only = λ x. never (cc); same-input = λ x. never (cc); incomplete = λ x. absurd (x all); otherwise = λ x y. q }

    go : (Complete new × (suited c ≡ accepted new)) ⊎ (suited c ≡ refused 22 0) → ChangedSays sh new st r
    go (inl (all, is)) =
        equal all (is_open st.phase) (agrees sh new st.begun) refl refl (e ∙ rw (is, read) refl)
    go (inr is) =
        let at : r ≡ Err (refusal_of 22 0) = e ∙ rw is refl in
        record {
          goes_on = λ x y z. let w = suited-complete c new read-new x in never (cc);
          only = λ x. never (cc);
          same-input = λ x. never (cc);
          incomplete = λ x. at;
          otherwise = λ x y. let w = suited-complete c new read-new x in never (cc);
        }
