-- Where the station stands: what was given and what was taken, kept by every call of a history.
use Rattle.std.specs.Prelude.{ℕ, zero, suc, ◌<◌, ◌≤◌, ◌≡◌, Bool, true, not, ◌&&◌, eqb, ltb, length, take}
use Rattle.std.proofs.Common.{arith, sym, ◌∙◌, ap, eqb-true, ltb-true, ltb-false, length-take, length-take-le}
use Rattle.std.proofs.Math.Path.{refl, subst}
use Rattle.std.proofs.Math.Bool.{false}
use Rattle.std.proofs.Math.Option.{Option, none, some}
use mathlib.Core.List.{List, [], ◌∷◌, ◌++◌, append_assoc, append-nil}
use Rattle.std.proofs.lemmas.Bool.{eqb-false}
use Rattle.lists.specs.Lists.{joined}
use Rattle.lists.specs.laws.TestLaw.{never}
use Rattle.sheet.specs.Sheet.{Sheet}
use Rattle.sheet.specs.Reading.{Result, accepted, refused, Reading, reading}
use Rattle.model.specs.Suite.{Judgement, complete, survivor, judge_of}
use Rattle.model.specs.Operations.{reads, refuse_if}
use Rattle.model.specs.Implementation.{Event, reset, input, suite_events}
use Rattle.station.specs.declared.Phase.{Phase}
use Rattle.station.specs.declared.Phase.TheVariants as phase
use Rattle.station.specs.declared.State.{State}
use Rattle.station.specs.Station.{state_at, fresh, is_complete, suited, beginning, current, element_at, input_at, Given, onward, along, next_by, nexting, expected, due_by, Heard, heard_as, take_by, taking, Agree, is_open, agrees_with, changing}
use Rattle.station.specs.Calls.{Call, next, take-output, change, sheet_of, state_of, Answered, sheet_left, state_left, Chained, last_sheet, last_state, due_after, due_left, due_from, given_by, events_of, taken_of, got_from, taken_in}
use Rattle.station.proofs.laws.AgreeLaw.{agrees-true}
use Rattle.station.proofs.laws.ProgressLaw.{element-none, element-some, element-take, progress, progress-more, progress-next, progress-all, current-agree, progress-agree, test_events, part_events, events_to, events-whole, events-more, suite-joined, part_outputs, outputs_to, outputs-whole, expected-agree}

-- ---- where the station stands: so many tests begun, so many outputs of the last one taken, the events given, the outputs taken
pub record Within (ts : List (List ℕ)) (n i : ℕ) : Type 0 where
  pub few : n ≤ length ts
  pub short : i ≤ length (current ts n)

abbrev pub is_due : Phase → Bool
is_due phase.Ready = false
is_due phase.Due = true
is_due phase.Passed = false
is_due phase.Failed = false

pub record Waiting (sh : Sheet) (n i : ℕ) (es : List Event) (os : List ℕ) : Type 0 where
  pub within : Within sh.tests n i
  pub events : es ≡ events_to sh.tests n i
  pub outputs : os ≡ outputs_to sh sh.tests n i

pub record Asked (sh : Sheet) (n i : ℕ) (es : List Event) (os : List ℕ) : Type 0 where
  pub within : Within sh.tests n i
  pub press : ℕ
  pub there : element_at (current sh.tests n) i ≡ some press
  pub events : es ≡ events_to sh.tests n i ++ input press ∷ []
  pub outputs : os ≡ outputs_to sh sh.tests n i

pub record Done (sh : Sheet) (es : List Event) (os : List ℕ) : Type 0 where
  pub events : es ≡ suite_events sh.tests
  pub outputs : os ≡ joined (expected sh) sh.tests

pub record Wrong (sh : Sheet) (n i : ℕ) (es : List Event) (os : List ℕ) : Type 0 where
  pub within : Within sh.tests n i
  pub press : ℕ
  pub there : element_at (current sh.tests n) i ≡ some press
  pub events : es ≡ events_to sh.tests n i ++ input press ∷ []
  pub right : ℕ
  pub specifies : element_at (expected sh (current sh.tests n)) i ≡ some right
  pub output : ℕ
  pub outputs : os ≡ outputs_to sh sh.tests n i ++ output ∷ []
  pub wrong : output ≡ right → ⊥

abbrev pub Stands : Phase → Sheet → ℕ → ℕ → List Event → List ℕ → Type 0
Stands phase.Ready sh n i es os = Waiting sh n i es os
Stands phase.Due sh n i es os = Asked sh n i es os
Stands phase.Passed sh n i es os = Done sh es os
Stands phase.Failed sh n i es os = Wrong sh n i es os

-- an element is there: a test has begun
pub begun : (ts : List (List ℕ)) (n i x : ℕ) → element_at (current ts n) i ≡ some x → 0 < n
unfolding current
begun ts zero zero x e = never (cc)
begun ts zero (suc i) x e = never (cc)
begun ts (suc n) i x e = omega arith

module _ (sh : Sheet) (n i : ℕ) (es : List Event) (os : List ℕ) where
  -- ---- the next step
  reset-stands : Waiting sh n i es os → element_at (current sh.tests n) i ≡ none → n < length sh.tests → Waiting sh (suc n) 0 (es ++ reset ∷ []) os
  reset-stands w e l =
      let k = element-none (current sh.tests n) i e in
      record {
        within = record { few = omega arith; short = omega arith };
        events = rw w.events (sym (progress-next test_events part_events events-whole sh.tests n i (omega arith) k));
        outputs = w.outputs ∙ sym (append-nil (outputs_to sh sh.tests n i)) ∙ sym (progress-next (expected sh) (part_outputs sh) (outputs-whole sh) sh.tests n i (omega arith) k);
      }

  pass-stands : Waiting sh n i es os → element_at (current sh.tests n) i ≡ none → length sh.tests ≤ n → Done sh es os
  pass-stands w e l =
      let k = element-none (current sh.tests n) i e in
      let all : n ≡ length sh.tests = omega (arith, w.within.few) in
      record {
        events = w.events ∙ progress-all test_events part_events events-whole sh.tests n i all k ∙ suite-joined sh.tests;
        outputs = w.outputs ∙ progress-all (expected sh) (part_outputs sh) (outputs-whole sh) sh.tests n i all k;
      }

  input-stands : (x : ℕ) → Waiting sh n i es os → element_at (current sh.tests n) i ≡ some x → Asked sh n i (es ++ input x ∷ []) os
  input-stands x w e = record { within = w.within; press = x; there = e; events = rw w.events refl; outputs = w.outputs }

  -- ---- an output
  right-stands : (o : ℕ) → Asked sh n i es os → element_at (expected sh (current sh.tests n)) i ≡ some o → Waiting sh n (suc i) es (os ++ o ∷ [])
  right-stands o a e =
      let h = element-some (current sh.tests n) i a.press a.there in
      let l = begun sh.tests n i a.press a.there in
      record {
        within = record { few = a.within.few; short = h.inside };
        events = a.events ∙ sym (progress-more test_events part_events sh.tests n i (input a.press) l (events-more i a.press (current sh.tests n) a.there));
        outputs = rw a.outputs (sym (progress-more (expected sh) (part_outputs sh) sh.tests n i o l (element-take (expected sh (current sh.tests n)) i o e)));
      }

  wrong-stands : (o right : ℕ) → Asked sh n i es os → element_at (expected sh (current sh.tests n)) i ≡ some right → (o ≡ right → ⊥) → Wrong sh n i es (os ++ o ∷ [])
  wrong-stands o right a e w =
      record {
        within = a.within;
        press = a.press;
        there = a.there;
        events = a.events;
        right = right;
        specifies = e;
        output = o;
        outputs = rw a.outputs refl;
        wrong = w;
      }

-- ---- a changed sheet
expected-same : (a b : Sheet) → a.rules ≡ b.rules → expected a ≡ expected b
expected-same a b e = λ i t. expected-agree a b e t i

module _ (a b : Sheet) (n i : ℕ) (es : List Event) (os : List ℕ) (agree : Agree a b n) where
  within-agree : Within a.tests n i → Within b.tests n i
  within-agree w =
      let many = sym (length-take-le n a.tests w.few) ∙ ap length agree.tests ∙ length-take n b.tests in
      record { few = omega (arith, many); short = rw (← current-agree a.tests b.tests n agree.tests) w.short }

  events-agree : events_to a.tests n i ≡ events_to b.tests n i
  events-agree = progress-agree a.tests b.tests test_events part_events n i agree.tests

  outputs-agree : outputs_to a a.tests n i ≡ outputs_to b b.tests n i
  outputs-agree =
      progress-agree a.tests b.tests (expected a) (part_outputs a) n i agree.tests
      ∙ ap (λ (f : List ℕ → List ℕ). progress f (λ j t. take j (f t)) b.tests n i) (expected-same a b agree.rules)

  waiting-agree : Waiting a n i es os → Waiting b n i es os
  waiting-agree w = record { within = within-agree w.within; events = w.events ∙ events-agree; outputs = w.outputs ∙ outputs-agree }

  asked-agree : Asked a n i es os → Asked b n i es os
  asked-agree w =
      record {
        within = within-agree w.within;
        press = w.press;
        there = rw (← current-agree a.tests b.tests n agree.tests) w.there;
        events = w.events ∙ rw events-agree refl;
        outputs = w.outputs ∙ outputs-agree;
      }

-- ---- each call
pub record Stood (sh : Sheet) (st : State) (due : Bool) (es : List Event) (os : List ℕ) : Type 0 where
  pub due-is : due ≡ is_due st.phase
  pub stands : Stands st.phase sh st.begun st.position es os

-- after a next step
abbrev NextStood : Sheet → Bool → Given → List Event → List ℕ → Type 0
NextStood sh due g es os = Stood sh g.state (due_after g.step due) (es ++ given_by g.step due) os

module _ (sh : Sheet) (n i : ℕ) (es : List Event) (os : List ℕ) where
  nothing-more : es ≡ es ++ []
  nothing-more = sym (append-nil es)

  ready-next : Waiting sh n i es os → (o : Option ℕ) → element_at (current sh.tests n) i ≡ o → NextStood sh false (along sh (state_at n i phase.Ready) o) es os
  ready-next w none e = go (ltb n (length sh.tests)) refl
    where
      go : (b : Bool) → ltb n (length sh.tests) ≡ b →
          NextStood sh false (onward b (state_at n i phase.Ready)) es os
      go true l = record { due-is = refl; stands = reset-stands sh n i es os w e (ltb-true n (length sh.tests) l) }
      go false l = record { due-is = refl; stands = subst (λ (d : List Event). Done sh d os) nothing-more (pass-stands sh n i es os w e (ltb-false n (length sh.tests) l)) }
  ready-next w (some x) e = record { due-is = refl; stands = input-stands sh n i es os x w e }

  due-next : Asked sh n i es os → (o : Option ℕ) → element_at (current sh.tests n) i ≡ o → NextStood sh true (along sh (state_at n i phase.Due) o) es os
  due-next a none e = let z = a.there in never (cc)
  due-next a (some x) e = record { due-is = refl; stands = subst (λ (d : List Event). Asked sh n i d os) nothing-more a }

  next-stood : (p : Phase) → Stands p sh n i es os → NextStood sh (is_due p) (next_by p sh (state_at n i p)) es os
  unfolding input_at
  next-stood phase.Ready w = ready-next w (element_at (current sh.tests n) i) refl
  next-stood phase.Due a = due-next a (element_at (current sh.tests n) i) refl
  next-stood phase.Passed d = record { due-is = refl; stands = subst (λ (l : List Event). Done sh l os) nothing-more d }
  next-stood phase.Failed d = record { due-is = refl; stands = subst (λ (l : List Event). Wrong sh n i l os) nothing-more d }

  -- after an output
  abbrev TakeStood : Phase → ℕ → Result Heard → Type 0
  TakeStood p o (accepted h) = Stood sh h.state false es (os ++ o ∷ [])
  TakeStood p o (refused number place) = Unit {0}

  take-stood : (p : Phase) (o : ℕ) → Stands p sh n i es os → TakeStood p o (take_by (due_by p sh (state_at n i p)) sh (state_at n i p) o)
  take-stood phase.Ready o w = tt
  take-stood phase.Due o a = go (element_at (expected sh (current sh.tests n)) i) refl
    where
      by : (e : ℕ) → element_at (expected sh (current sh.tests n)) i ≡ some e → (b : Bool) → eqb o e ≡ b → Stood sh (heard_as b (state_at n i phase.Due)).state false es (os ++ o ∷ [])
      by e x true q = record { due-is = refl; stands = right-stands sh n i es os o a (x ∙ ap (λ (y : ℕ). some y) (sym (eqb-true o e q))) }
      by e x false q = record { due-is = refl; stands = wrong-stands sh n i es os o e a x (eqb-false o e q) }

      low : (e : ℕ) → element_at (expected sh (current sh.tests n)) i ≡ some e → (b : Bool) →
          TakeStood phase.Due o (refuse_if (not b) 24 0 (accepted (heard_as (eqb o e) (state_at n i phase.Due))))
      low e x true = by e x (eqb o e) refl
      low e x false = tt

      go : (d : Option ℕ) → element_at (expected sh (current sh.tests n)) i ≡ d → TakeStood phase.Due o (take_by d sh (state_at n i phase.Due) o)
      go none x = tt
      go (some e) x = low e x (ltb o sh.size.outputs)
  take-stood phase.Passed o d = tt
  take-stood phase.Failed o d = tt

-- what a sheet that is complete was
pub record Suited (s : List ℕ) (sh : Sheet) : Type 0 where
  pub read : reading s ≡ accepted sh
  pub judged : judge_of sh ≡ complete

pub suited-as : (s : List ℕ) (sh : Sheet) → suited s ≡ accepted sh → Suited s sh
unfolding suited
suited-as s sh = go (reading s) refl
  where
    judge : (q : Sheet) → reading s ≡ accepted q → (j : Judgement) → judge_of q ≡ j → refuse_if (not (is_complete j)) 22 0 (accepted q) ≡ accepted sh → Suited s sh
    judge q er complete ej e = let z : q ≡ sh = cc in record { read = rw (← z) er; judged = rw (← z) ej }
    judge q er (survivor b xs) ej e = never (cc)

    go : (r : Reading) → reading s ≡ r → reads r (λ q. refuse_if (not (is_complete (judge_of q))) 22 0 (accepted q)) ≡ accepted sh → Suited s sh
    go (accepted q) er e = judge q er (judge_of q) refl e
    go (refused number place) er e = never (cc)

-- what an accepted change was
pub record Changed (s : List ℕ) (st : State) (c : List ℕ) (left : State) : Type 0 where
  pub sheet : Sheet
  pub suits : Suited c sheet
  pub open-still : is_open st.phase ≡ true
  pub agreed : agrees_with (reading s) sheet st.begun ≡ true
  pub stays : left ≡ st

pub changed : (s : List ℕ) (st : State) (c : List ℕ) (left : State) → changing s st c ≡ accepted left → Changed s st c left
unfolding changing
changed s st c left = go (suited c) refl
  where
    equal : (sh : Sheet) → suited c ≡ accepted sh → (a b : Bool) → is_open st.phase ≡ a → agrees_with (reading s) sh st.begun ≡ b →
        refuse_if (not (a && b)) 23 0 (accepted st) ≡ accepted left → Changed s st c left
    equal sh er true true ea eb e = let z : left ≡ st = cc in record { sheet = sh; suits = suited-as c sh er; open-still = ea; agreed = eb; stays = z }
    equal sh er true false ea eb e = never (cc)
    equal sh er false b ea eb e = never (cc)

    go : (r : Reading) → suited c ≡ r → reads r (λ sh. refuse_if (not (is_open st.phase && agrees_with (reading s) sh st.begun)) 23 0 (accepted st)) ≡ accepted left →
        Changed s st c left
    go (accepted sh) er e = equal sh er (is_open st.phase) (agrees_with (reading s) sh st.begun) refl refl e
    go (refused number place) er e = never (cc)

-- what an accepted begin was
pub record Begun (s : List ℕ) (st : State) : Type 0 where
  pub sheet : Sheet
  pub suits : Suited s sheet
  pub is : st ≡ fresh

pub begun-with : (s : List ℕ) (st : State) → beginning s ≡ accepted st → Begun s st
unfolding beginning
begun-with s st = go (suited s) refl
  where
    go : (r : Reading) → suited s ≡ r → reads r (λ sh. accepted fresh) ≡ accepted st → Begun s st
    go (accepted sh) er e = let z : st ≡ fresh = cc in record { sheet = sh; suits = suited-as s sh er; is = z }
    go (refused number place) er e = never (cc)

-- ---- along a history
pub record Inv (s : List ℕ) (st : State) (due : Bool) (es : List Event) (os : List ℕ) : Type 0 where
  pub sheet : Sheet
  pub read : reading s ≡ accepted sheet
  pub judged : judge_of sheet ≡ complete
  pub stood : Stood sheet st due es os

-- nothing was given, and nothing taken
same-inv : {s : List ℕ} {st : State} {due : Bool} {es : List Event} {os : List ℕ} → Inv s st due es os → Inv s st due (es ++ []) (os ++ [])
same-inv {s} {st} {due} {es} {os} h =
    subst (λ (l : List Event). Inv s st due l (os ++ [])) (sym (append-nil es)) (subst (λ (l : List ℕ). Inv s st due es l) (sym (append-nil os)) h)

-- what a call does
abbrev CallInv : Call → Bool → List Event → List ℕ → Type 0
CallInv c due es os = Inv (sheet_left c) (state_left c) (due_left due c) (es ++ events_of due c) (os ++ taken_of c)

module _ (s : List ℕ) (st : State) (due : Bool) (es : List Event) (os : List ℕ) (h : Inv s st due es os) where
  abbrev g : Given
  g = next_by st.phase h.sheet st

  next-inv : (r : Result Given) → r ≡ nexting s st → CallInv (next s st r) due es os
  unfolding nexting
  next-inv r e = let is : nexting s st ≡ accepted g = rw h.read refl in subst (λ (q : Result Given). CallInv (next s st q) due es os) (sym (e ∙ is)) given
    where
      after : NextStood h.sheet (is_due st.phase) g es os
      after = next-stood h.sheet st.begun st.position es os st.phase h.stood.stands

      given : Inv s g.state (due_after g.step due) (es ++ given_by g.step due) (os ++ [])
      given =
          record {
            sheet = h.sheet;
            read = h.read;
            judged = h.judged;
            stood =
                subst (λ (l : List ℕ). NextStood h.sheet due g es l) (sym (append-nil os))
                (subst (λ (d : Bool). NextStood h.sheet d g es os) (sym h.stood.due-is) after);
          }

  take-inv : (o : ℕ) (r : Result Heard) → r ≡ taking s st o → CallInv (take-output s st o r) due es os
  unfolding taking
  take-inv o r e =
      let is : taking s st o ≡ take_by (due_by st.phase h.sheet st) h.sheet st o = rw h.read refl in
      let by = take-stood h.sheet st.begun st.position es os st.phase o h.stood.stands in
      go r (subst (TakeStood h.sheet st.begun st.position es os st.phase o) (sym (e ∙ is)) by)
    where
      go : (q : Result Heard) → TakeStood h.sheet st.begun st.position es os st.phase o q → CallInv (take-output s st o q) due es os
      go (accepted a) t = record { sheet = h.sheet; read = h.read; judged = h.judged; stood = subst (λ (l : List Event). Stood h.sheet a.state false l (os ++ o ∷ [])) (sym (append-nil es)) t }
      go (refused number place) t = same-inv h

  stands-agree : (sh : Sheet) → Agree h.sheet sh st.begun → is_open st.phase ≡ true → Stood sh st due es os
  stands-agree sh agree o = record { due-is = h.stood.due-is; stands = go st.phase o h.stood.stands }
    where
      go : (p : Phase) → is_open p ≡ true → Stands p h.sheet st.begun st.position es os → Stands p sh st.begun st.position es os
      go phase.Ready e w = waiting-agree h.sheet sh st.begun st.position es os agree w
      go phase.Due e w = asked-agree h.sheet sh st.begun st.position es os agree w
      go phase.Passed e w = never (cc)
      go phase.Failed e w = never (cc)

  change-inv : (c : List ℕ) (r : Result State) → r ≡ changing s st c → CallInv (change s st c r) due es os
  change-inv c (accepted left) e =
      let k = changed s st c left (sym e) in
      let agree = agrees-true h.sheet k.sheet st.begun (rw h.read at k.agreed) in
      same-inv (record { sheet = k.sheet; read = k.suits.read; judged = k.suits.judged; stood = subst (λ (q : State). Stood k.sheet q due es os) (sym k.stays) (stands-agree k.sheet agree k.open-still) })
  change-inv c (refused number place) e = same-inv h

call-inv : (c : Call) (due : Bool) (es : List Event) (os : List ℕ) → Answered c → Inv (sheet_of c) (state_of c) due es os → CallInv c due es os
call-inv (next s st r) due es os a h = next-inv s st due es os h r a
call-inv (take-output s st o r) due es os a h = take-inv s st due es os h o r a
call-inv (change s st c r) due es os a h = change-inv s st due es os h c r a

pub chain-inv : (calls : List Call) (s : List ℕ) (st : State) (due : Bool) (es : List Event) (os : List ℕ) → Chained s st calls → Inv s st due es os →
    Inv (last_sheet s calls) (last_state st calls) (due_from due calls) (es ++ got_from due calls) (os ++ taken_in calls)
unfolding Chained last_sheet last_state due_from got_from taken_in
chain-inv [] s st due es os c h = same-inv h
chain-inv (k ∷ calls) s st due es os c h =
    let here : Inv (sheet_of k) (state_of k) due es os = subst (λ (q : State). Inv (sheet_of k) q due es os) (sym c.1) (subst (λ (l : List ℕ). Inv l st due es os) (sym c.0) h) in
    let rest = chain-inv calls (sheet_left k) (state_left k) (due_left due k) (es ++ events_of due k) (os ++ taken_of k) c.3 (call-inv k due es os c.2 here) in
    rw (← append_assoc es (events_of due k) (got_from (due_left due k) calls), ← append_assoc os (taken_of k) (taken_in calls)) rest
