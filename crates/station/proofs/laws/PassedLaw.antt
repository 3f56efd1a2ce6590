-- The theorem behind 02's Point 13: what a verdict of the station means.
use Rattle.std.specs.Prelude.{ℕ, zero, suc, ◌-◌, ◌<◌, ◌≤◌, ◌≡◌, Bool, not, ◌⊎◌, eqb, length, get_or, take}
use native.Mathlib.Omega.{arith}
use Rattle.std.proofs.Math.Path.{refl, subst}
use Rattle.std.proofs.Common.{sym, ◌∙◌, ap, inl, ltb-false}
use Rattle.std.proofs.Math.Bool.{true, false}
use Rattle.std.proofs.Math.Logic.{inr}
use Rattle.std.proofs.Math.Option.{Option, none, some}
use mathlib.Core.List.{List, [], ◌∷◌, ◌++◌, map, append_assoc, append-nil}
use Rattle.std.proofs.Math.Dec.{ltb}
use Rattle.lists.specs.laws.ListLaw.{all-at-index}
use Rattle.lists.specs.Lists.{All, joined}
use Rattle.lists.specs.laws.TestLaw.{never}
use Rattle.sheet.specs.Sheet.{Sheet}
use Rattle.sheet.specs.Reading.{accepted, refused}
use Rattle.sheet.specs.WellFormed.{WellFormed}
use Rattle.sheet.specs.laws.AcceptedLaw.{well-formed}
use Rattle.model.specs.Machine.{Move, specified_from}
use Rattle.model.specs.Mutant.{rule, specified, IsMutant}
use Rattle.model.specs.Suite.{Place}
use Rattle.model.specs.Operations.{refuse_if}
use Rattle.model.specs.Implementation.{Event, reset, input, required_from, required, Gives, Proper, Implementation, BehavesAs, GivesAll, suite_events, PassesSuite, Guaranteed}
use Rattle.model.specs.Verdict.{Complete}
use Rattle.model.proofs.laws.SuiteLaw.{specified-uncons, Specified, test-specified}
use Rattle.model.proofs.laws.Demands.{judged-told}
use Rattle.station.specs.declared.Phase.{Phase}
use Rattle.station.specs.declared.Phase.TheVariants as phase
use Rattle.station.specs.declared.State.{State}
use Rattle.station.specs.Station.{fresh, current, element_at, input_at, expected, due_by, place_of, Heard, heard_as, take_by, taking, is_open}
use Rattle.station.specs.Calls.{Call, History, last_sheet, last_state, due_in, got_in, taken_in, GivesPass, GivesFailure, Some, FrontMeans, RightMeans, PassMeans, FailureMeans}
use Rattle.station.proofs.laws.ProgressLaw.{element-at, element-some, progress, progress-more, test_events, part_events, events_to, events-more, events-front, suite-joined, outputs-front}
use Rattle.station.proofs.laws.StandsLaw.{is_due, Asked, Done, Wrong, Stands, begun, Stood, begun-with, Inv, chain-inv}
use Rattle.station.proofs.laws.VerdictLaw.{take_left, verdict-last, Passed, pass-left, FailedAt, fail-left}

-- ---- the outputs of the whole suite are the specified ones
module _ (rule : ℕ → ℕ → Option Move) where
  -- those of a test, and of what follows it from whatever state
  test-gives : (t os os' : List ℕ) (rest : List Event) (p : ℕ) → specified_from rule p t ≡ some os →
      ((st : Option ℕ) → Gives os' (required_from rule st rest)) → Gives (os ++ os') (required_from rule (some p) (map input t ++ rest))
  unfolding specified_from required_from Gives
  test-gives [] os os' rest p e h = let z : [] ≡ os = cc in rw (← z) (h (some p))
  test-gives (x ∷ t) os os' rest p e h =
      let f = specified-uncons rule p x t os e in
      rw (f.is, f.ruled) (refl, test-gives t f.rest os' rest f.move.target f.specifies h)

suite-outputs : (sh : Sheet) (ts : List (List ℕ)) → All (Specified sh) ts → (st : Option ℕ) → Gives (joined (expected sh) ts) (required_from (rule sh) st (suite_events ts))
unfolding joined suite_events required_from Gives expected specified
suite-outputs sh [] a st = tt
suite-outputs sh (t ∷ ts) a st =
    rw a.0.is (test-gives (rule sh) t a.0.expected (joined (expected sh) ts) (suite_events ts) 0 (unfold specified in a.0.is) (suite-outputs sh ts a.1))

-- an implementation that gave them passes the suite
pub outputs-pass : (sh : Sheet) → WellFormed sh → (implementation : Implementation) → implementation (suite_events sh.tests) ≡ joined (expected sh) sh.tests → PassesSuite sh implementation
unfolding PassesSuite GivesAll required
outputs-pass sh wf implementation e = rw e (suite-outputs sh sh.tests (test-specified sh wf) none)

-- where it is
record Located (sh : Sheet) (t i : ℕ) (es : List Event) (os : List ℕ) : Type 0 where
  is : t < length sh.tests
  reached : i < length (get_or sh.tests t [])
  events : es ≡ suite_events (take t sh.tests) ++ (reset ∷ map input (take (suc i) (get_or sh.tests t [])))
  output : ℕ
  outputs : os ≡ (joined (expected sh) (take t sh.tests) ++ take i (expected sh (get_or sh.tests t []))) ++ output ∷ []
  wrong : output ≡ get_or (expected sh (get_or sh.tests t [])) i 0 → ⊥

located : (sh : Sheet) (t i : ℕ) (es : List Event) (os : List ℕ) → Wrong sh (suc t) i es os → Located sh t i es os
unfolding progress current
located sh t i es os w =
    let test = get_or sh.tests t [] in
    let before = joined test_events (take t sh.tests) in
    let more = events-more i w.press test w.there in
    let e = element-some (expected sh test) i w.right w.specifies in
    record {
      is = w.within.few;
      reached = (element-some test i w.press w.there).inside;
      events = w.events ∙ append_assoc before (part_events i test) (input w.press ∷ []) ∙ ap (λ (l : List Event). before ++ l) (sym more) ∙ rw (suite-joined (take t sh.tests)) refl;
      output = w.output;
      outputs = w.outputs;
      wrong = λ q. w.wrong (q ∙ e.is);
    }

located-at : (sh : Sheet) (st : State) (f : Place) (es : List Event) (os : List ℕ) → place_of st ≡ f → Wrong sh st.begun st.position es os → Located sh f.test f.position es os
located-at sh st f es os e w =
    let l = begun sh.tests st.begun st.position w.press w.there in
    let t : st.begun - 1 ≡ f.test = ap (λ (g : Place). g.test) e in
    let n : st.begun ≡ suc f.test = omega arith in
    located sh f.test f.position es os
    (subst (λ (i : ℕ). Wrong sh (suc f.test) i es os) (ap (λ (g : Place). g.position) e) (subst (λ (m : ℕ). Wrong sh m st.position es os) n w))

-- ---- what was given is the front of the suite
stands-front : (sh : Sheet) (n i : ℕ) (es : List Event) (os : List ℕ) (p : Phase) → Stands p sh n i es os → (rest : List Event) × (es ++ rest ≡ suite_events sh.tests)
stands-front sh n i es os phase.Ready w = let f = events-front sh.tests n i w.within.few in (f.0, ap (λ (l : List Event). l ++ f.0) w.events ∙ f.1)
stands-front sh n i es os phase.Due a =
    let f = events-front sh.tests n (suc i) a.within.few in
    let l = begun sh.tests n i a.press a.there in
    let more = progress-more test_events part_events sh.tests n i (input a.press) l (events-more i a.press (current sh.tests n) a.there) in
    (f.0, ap (λ (l : List Event). l ++ f.0) (a.events ∙ sym more) ∙ f.1)
stands-front sh n i es os phase.Passed d = ([], append-nil es ∙ d.events)
stands-front sh n i es os phase.Failed a =
    let f = events-front sh.tests n (suc i) a.within.few in
    let l = begun sh.tests n i a.press a.there in
    let more = progress-more test_events part_events sh.tests n i (input a.press) l (events-more i a.press (current sh.tests n) a.there) in
    (f.0, ap (λ (l : List Event). l ++ f.0) (a.events ∙ sym more) ∙ f.1)

-- and what was taken, without a verdict, that of the specified outputs
open-front : (sh : Sheet) (n i : ℕ) (es : List Event) (os : List ℕ) (p : Phase) → is_open p ≡ true → Stands p sh n i es os →
    (more : List ℕ) × (os ++ more ≡ joined (expected sh) sh.tests)
open-front sh n i es os phase.Ready o w = let f = outputs-front sh n i w.within.few in (f.0, ap (λ (l : List ℕ). l ++ f.0) w.outputs ∙ f.1)
open-front sh n i es os phase.Due o a = let f = outputs-front sh n i a.within.few in (f.0, ap (λ (l : List ℕ). l ++ f.0) a.outputs ∙ f.1)
open-front sh n i es os phase.Passed o d = never (cc)
open-front sh n i es os phase.Failed o d = never (cc)

-- an input that is due has a specified output
asked-expected : (sh : Sheet) (n i : ℕ) (es : List Event) (os : List ℕ) → WellFormed sh → Asked sh n i es os → (e : ℕ) × (element_at (expected sh (current sh.tests n)) i ≡ some e)
unfolding current
asked-expected sh zero i es os wf a = absurd (let l = begun sh.tests 0 i a.press a.there in omega arith)
asked-expected sh (suc n) i es os wf a =
    let t = get_or sh.tests n [] in
    let s = all-at-index (Specified sh) sh.tests n [] a.within.few (test-specified sh wf) in
    let is : expected sh t ≡ s.expected = expected-is sh t s.expected s.is in
    let inside = (element-some t i a.press a.there).inside in
    (get_or (expected sh t) i 0, element-at (expected sh t) i (omega (arith, ap length is, s.long)))
  where
    expected-is : (sh : Sheet) (t os : List ℕ) → specified sh t ≡ some os → expected sh t ≡ os
    expected-is sh t os e = unfold expected in rw e refl

-- ---- the theorems
module _ (s : List ℕ) (calls : List Call) (h : History s calls) where
  first-inv : Inv s h.start false [] []
  unfolding progress
  first-inv =
      let b = begun-with s h.start h.begins in
      record { sheet = b.sheet; read = b.suits.read; judged = b.suits.judged; stood = subst (λ (q : State). Stood b.sheet q false [] []) (sym b.is) (at_first b.sheet) }
    where
      at_first : (sh : Sheet) → Stood sh fresh false [] []
      at_first sh = record { due-is = refl; stands = record { within = record { few = omega arith; short = omega arith }; events = refl; outputs = refl } }

  last-inv : Inv (last_sheet s calls) (last_state h.start calls) (due_in calls) (got_in calls) (taken_in calls)
  last-inv = chain-inv calls s h.start false [] [] h.chained first-inv

  -- of every history
  pub front-told : FrontMeans s calls
  front-told =
      let all : Complete last-inv.sheet × Guaranteed last-inv.sheet = rw last-inv.judged at (judged-told (last_sheet s calls) last-inv.sheet last-inv.read) in
      let st = last_state h.start calls in
      let front = stands-front last-inv.sheet st.begun st.position (got_in calls) (taken_in calls) st.phase last-inv.stood.stands in
      record { sheet = last-inv.sheet; read = last-inv.read; complete = all.0; rest = front.0; got = front.1 }

  -- without a verdict
  pub right-told : is_open (last_state h.start calls).phase ≡ true → RightMeans s calls
  unfolding front-told
  right-told o =
      let st = last_state h.start calls in
      let m = open-front last-inv.sheet st.begun st.position (got_in calls) (taken_in calls) st.phase o last-inv.stood.stands in
      let f = front-told in
      record { sheet = last-inv.sheet; read = last-inv.read; complete = f.complete; rest = f.rest; got = f.got; more = m.0; taken = m.1 }

  -- an input that is due is the last that was given, and the one at the position
  pub due-told : due_in calls ≡ true →
      (x : ℕ) × (es : List Event) × (got_in calls ≡ es ++ input x ∷ []) × ((last_state h.start calls).phase ≡ phase.Due) × (input_at front-told.sheet (last_state h.start calls) ≡ some x)
  unfolding front-told input_at
  due-told d = go (last_state h.start calls).phase refl last-inv.stood.due-is last-inv.stood.stands
    where
      go : (p : Phase) → (last_state h.start calls).phase ≡ p → due_in calls ≡ is_due p →
          Stands p last-inv.sheet (last_state h.start calls).begun (last_state h.start calls).position (got_in calls) (taken_in calls) →
          (x : ℕ) × (es : List Event) × (got_in calls ≡ es ++ input x ∷ []) × ((last_state h.start calls).phase ≡ phase.Due)
          × (element_at (current last-inv.sheet.tests (last_state h.start calls).begun) (last_state h.start calls).position ≡ some x)
      go phase.Ready e q w = never (cc)
      go phase.Due e q a = (a.press, events_to last-inv.sheet.tests (last_state h.start calls).begun (last_state h.start calls).position, a.events, e, a.there)
      go phase.Passed e q w = never (cc)
      go phase.Failed e q w = never (cc)

  -- an output is taken only if an input is due
  pub taken-due : (o : ℕ) (x : Heard) → taking (last_sheet s calls) (last_state h.start calls) o ≡ accepted x → due_in calls ≡ true
  taken-due o x e =
      let k = take_left (last_sheet s calls) (last_state h.start calls) o x e in
      go k.0 k.1 (last_state h.start calls).phase last-inv.stood.due-is k.2
    where
      go : (sh : Sheet) (e : ℕ) (p : Phase) → due_in calls ≡ is_due p → due_by p sh (last_state h.start calls) ≡ some e → due_in calls ≡ true
      go sh e phase.Ready d q = never (cc)
      go sh e phase.Due d q = d
      go sh e phase.Passed d q = never (cc)
      go sh e phase.Failed d q = never (cc)

  -- an output is refused, with 24, only if no input is due or it is not below m
  pub refused-told : (o number place : ℕ) → taking (last_sheet s calls) (last_state h.start calls) o ≡ refused number place →
      (number ≡ 24) × (place ≡ 0) × ((due_in calls ≡ false) ⊎ (front-told.sheet.size.outputs ≤ o))
  unfolding taking front-told
  refused-told o number place e =
      let st = last_state h.start calls in
      let sh = last-inv.sheet in
      let is : take_by (due_by st.phase sh st) sh st o ≡ refused number place = rw last-inv.read at e in
      go st.phase last-inv.stood.due-is last-inv.stood.stands is
    where
      high : (b : Bool) → ltb o last-inv.sheet.size.outputs ≡ b → (x : Heard) → refuse_if (not b) 24 0 (accepted x) ≡ refused number place →
          (number ≡ 24) × (place ≡ 0) × ((due_in calls ≡ false) ⊎ (last-inv.sheet.size.outputs ≤ o))
      high true l x q = never (cc)
      high false l x q = let y : number ≡ 24 = cc in let z : place ≡ 0 = cc in (y, z, inr (ltb-false o last-inv.sheet.size.outputs l))

      none-due : due_in calls ≡ false → take_by none last-inv.sheet (last_state h.start calls) o ≡ refused number place →
          (number ≡ 24) × (place ≡ 0) × ((due_in calls ≡ false) ⊎ (last-inv.sheet.size.outputs ≤ o))
      none-due d q = let y : number ≡ 24 = cc in let z : place ≡ 0 = cc in (y, z, inl d)

      go : (p : Phase) → due_in calls ≡ is_due p →
          Stands p last-inv.sheet (last_state h.start calls).begun (last_state h.start calls).position (got_in calls) (taken_in calls) →
          take_by (due_by p last-inv.sheet (last_state h.start calls)) last-inv.sheet (last_state h.start calls) o ≡ refused number place →
          (number ≡ 24) × (place ≡ 0) × ((due_in calls ≡ false) ⊎ (last-inv.sheet.size.outputs ≤ o))
      go phase.Ready d w q = none-due d q
      go phase.Due d a q =
          let st = last_state h.start calls in
          let t = asked-expected last-inv.sheet st.begun st.position (got_in calls) (taken_in calls) (well-formed (last_sheet s calls) last-inv.sheet last-inv.read) a in
          high (ltb o last-inv.sheet.size.outputs) refl (heard_as (eqb o t.0) st) (rw t.1 at q)
      go phase.Passed d w q = none-due d q
      go phase.Failed d w q = none-due d q

  -- after a verdict the state holds it
  pub passed-last : Some GivesPass calls → (last_state h.start calls).phase ≡ phase.Passed
  passed-last m = verdict-last Passed GivesPass pass-left calls s h.start h.chained m

  pub failed-last : (f : Place) → Some (GivesFailure f) calls → ((last_state h.start calls).phase ≡ phase.Failed) × (place_of (last_state h.start calls) ≡ f)
  failed-last f m = let k = verdict-last (FailedAt f) (GivesFailure f) (fail-left f) calls s h.start h.chained m in (k.is, k.at)

  -- 02, Point 13: an implementation that was passed enjoys the last sheet's guarantee
  pub pass-told : Some GivesPass calls → PassMeans s calls
  unfolding Guaranteed
  pass-told m = record { sheet = sh; read = last-inv.read; complete = all.0; got = done.events; taken = done.outputs; guarantee = guaranteed }
    where
      sh : Sheet
      sh = last-inv.sheet

      all : Complete sh × Guaranteed sh
      all = rw last-inv.judged at (judged-told (last_sheet s calls) sh last-inv.read)

      done : Done sh (got_in calls) (taken_in calls)
      done =
          subst (λ (p : Phase). Stands p sh (last_state h.start calls).begun (last_state h.start calls).position (got_in calls) (taken_in calls)) (passed-last m) last-inv.stood.stands

      guaranteed : (implementation : Implementation) (b : List ℕ) → IsMutant sh b → BehavesAs sh b implementation →
          implementation (got_in calls) ≡ taken_in calls → (es : List Event) → Proper sh es → GivesAll sh implementation es
      guaranteed implementation b mutant behaves gave =
          let on-suite = ap implementation (sym done.events) ∙ gave ∙ done.outputs in
          all.1 implementation b mutant behaves (outputs-pass sh (well-formed (last_sheet s calls) sh last-inv.read) implementation on-suite)

  -- 02, Point 13: a failure names the first wrong output
  pub failure-told : (f : Place) → Some (GivesFailure f) calls → FailureMeans s calls f
  failure-told f m =
      record {
        sheet = last-inv.sheet;
        read = last-inv.read;
        is = found.is;
        reached = found.reached;
        got = found.events;
        output = found.output;
        taken = found.outputs;
        wrong = found.wrong;
      }
    where
      failed : FailedAt f (last_state h.start calls)
      failed = verdict-last (FailedAt f) (GivesFailure f) (fail-left f) calls s h.start h.chained m

      found : Located last-inv.sheet f.test f.position (got_in calls) (taken_in calls)
      found =
          located-at last-inv.sheet (last_state h.start calls) f (got_in calls) (taken_in calls) failed.at
          (subst (λ (p : Phase). Stands p last-inv.sheet (last_state h.start calls).begun (last_state h.start calls).position (got_in calls) (taken_in calls)) failed.is last-inv.stood.stands)
