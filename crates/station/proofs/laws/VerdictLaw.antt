-- A verdict once given stays: what the state is after it.
use Rattle.std.specs.Prelude.{ℕ, ◌-◌, ◌≡◌, refl, Bool, true, false, not, List, [], ◌∷◌, eqb, ltb, length}
use Rattle.std.proofs.Common.{sym, ◌∙◌, ap, subst, inl, inr}
use Rattle.std.proofs.Math.Option.{Option, none, some}
use Rattle.lists.specs.laws.TestLaw.{never}
use Rattle.sheet.specs.Sheet.{Sheet}
use Rattle.sheet.specs.Reading.{accepted, refused, Reading, reading}
use Rattle.model.specs.Suite.{Place}
use Rattle.model.specs.Operations.{reads, refuse_if}
use Rattle.station.specs.declared.Phase.{Phase}
use Rattle.station.specs.declared.Phase.TheVariants as phase
use Rattle.station.specs.declared.State.{State}
use Rattle.station.specs.declared.Step.TheVariants as step
use Rattle.station.specs.Station.{input_at, Given, onward, along, next_by, nexting, due_by, place_of, Heard, heard_as, take_by, taking, is_open}
use Rattle.station.specs.Calls.{Call, next, take-output, change, state_of, Answered, sheet_left, state_left, Chained, last_state, GivesPass, GivesFailure, Some}
use Rattle.station.proofs.laws.StandsLaw.{changed}

-- after a verdict no call changes the state
closed-next : (sh : Sheet) (st : State) (p : Phase) → is_open p ≡ false → (next_by p sh st).state ≡ st
closed-next sh st phase.Ready e = never (cc)
closed-next sh st phase.Due e = never (cc)
closed-next sh st phase.Passed e = refl
closed-next sh st phase.Failed e = refl

closed-due : (sh : Sheet) (st : State) (p : Phase) → is_open p ≡ false → due_by p sh st ≡ none
closed-due sh st phase.Ready e = never (cc)
closed-due sh st phase.Due e = never (cc)
closed-due sh st phase.Passed e = refl
closed-due sh st phase.Failed e = refl

pub next-left : (s : List ℕ) (st : State) (g : Given) → nexting s st ≡ accepted g → (sh : Sheet) × (g ≡ next_by st.phase sh st)
unfolding nexting
next-left s st g = go (reading s)
  where
    go : (r : Reading) → reads r (λ sh. accepted (next_by st.phase sh st)) ≡ accepted g → (sh : Sheet) × (g ≡ next_by st.phase sh st)
    go (accepted sh) e = let z : g ≡ next_by st.phase sh st = cc in (sh, z)
    go (refused number place) e = never (cc)

pub take_left : (s : List ℕ) (st : State) (o : ℕ) (h : Heard) → taking s st o ≡ accepted h → (sh : Sheet) × (e : ℕ) × (due_by st.phase sh st ≡ some e) × (h ≡ heard_as (eqb o e) st)
unfolding taking
take_left s st o h = go (reading s)
  where
    low : (sh : Sheet) (e : ℕ) → due_by st.phase sh st ≡ some e → (b : Bool) → refuse_if (not b) 24 0 (accepted (heard_as (eqb o e) st)) ≡ accepted h →
        (sh : Sheet) × (e : ℕ) × (due_by st.phase sh st ≡ some e) × (h ≡ heard_as (eqb o e) st)
    low sh e x true q = let z : h ≡ heard_as (eqb o e) st = cc in (sh, e, x, z)
    low sh e x false q = never (cc)

    at : (sh : Sheet) (d : Option ℕ) → due_by st.phase sh st ≡ d → take_by d sh st o ≡ accepted h →
        (sh : Sheet) × (e : ℕ) × (due_by st.phase sh st ≡ some e) × (h ≡ heard_as (eqb o e) st)
    at sh none x q = never (cc)
    at sh (some e) x q = low sh e x (ltb o sh.size.outputs) q

    go : (r : Reading) → reads r (λ sh. take_by (due_by st.phase sh st) sh st o) ≡ accepted h →
        (sh : Sheet) × (e : ℕ) × (due_by st.phase sh st ≡ some e) × (h ≡ heard_as (eqb o e) st)
    go (accepted sh) q = at sh (due_by st.phase sh st) refl q
    go (refused number place) q = never (cc)

closed-stays : (c : Call) → Answered c → is_open (state_of c).phase ≡ false → state_left c ≡ state_of c
closed-stays (next s st (accepted g)) a e = let k = next-left s st g (sym a) in ap (λ (q : Given). q.state) k.1 ∙ closed-next k.0 st st.phase e
closed-stays (next s st (refused number place)) a e = refl
closed-stays (take-output s st o (accepted h)) a e = let k = take_left s st o h (sym a) in let z = closed-due k.0 st st.phase e in let w = k.2 in never (cc)
closed-stays (take-output s st o (refused number place)) a e = refl
closed-stays (change s st c (accepted left)) a e = let k = changed s st c left (sym a) in let z = k.open-still in never (cc)
closed-stays (change s st c (refused number place)) a e = refl

-- a verdict, of a state
pub record Verdict (P : State → Type 0) (st : State) : Type 0 where
  pub is : P st
  pub closed : is_open st.phase ≡ false

verdict-stays : (P : State → Type 0) (calls : List Call) (s : List ℕ) (st : State) → Chained s st calls → Verdict P st → P (last_state st calls)
unfolding Chained last_state
verdict-stays P [] s st c v = v.is
verdict-stays P (k ∷ calls) s st c v =
    let left = closed-stays k c.2 (rw c.1 v.closed) in
    verdict-stays P calls (sheet_left k) (state_left k) c.3 (subst (Verdict P) (sym (left ∙ c.1)) v)

-- a call that gives a verdict leaves it
pub verdict-last : (P : State → Type 0) (G : Call → Type 0) → ((c : Call) → Answered c → G c → Verdict P (state_left c)) →
    (calls : List Call) (s : List ℕ) (st : State) → Chained s st calls → Some G calls → P (last_state st calls)
unfolding Chained last_state Some
verdict-last P G left [] s st c m = absurd m
verdict-last P G left (k ∷ calls) s st c (inl g) = verdict-stays P calls (sheet_left k) (state_left k) c.3 (left k c.2 g)
verdict-last P G left (k ∷ calls) s st c (inr m) = verdict-last P G left calls (sheet_left k) (state_left k) c.3 m

-- pass
abbrev pub Passed : State → Type 0
Passed st = st.phase ≡ phase.Passed

along-pass : (sh : Sheet) (st : State) (o : Option ℕ) → (along sh st o).step ≡ step.Pass → (along sh st o).state.phase ≡ phase.Passed
along-pass sh st none e = go (ltb st.begun (length sh.tests)) e
  where
    go : (b : Bool) → (onward b st).step ≡ step.Pass → (onward b st).state.phase ≡ phase.Passed
    go true e = never (cc)
    go false e = refl
along-pass sh st (some x) e = never (cc)

next-pass : (sh : Sheet) (st : State) (p : Phase) → st.phase ≡ p → (next_by p sh st).step ≡ step.Pass → (next_by p sh st).state.phase ≡ phase.Passed
next-pass sh st phase.Ready ep e = along-pass sh st (input_at sh st) e
next-pass sh st phase.Due ep e = along-pass sh st (input_at sh st) e
next-pass sh st phase.Passed ep e = ep
next-pass sh st phase.Failed ep e = never (cc)

pub pass-left : (c : Call) → Answered c → GivesPass c → Verdict Passed (state_left c)
pass-left (next s st (accepted g)) a e =
    let k = next-left s st g (sym a) in
    let passed = next-pass k.0 st st.phase refl (sym (ap (λ (q : Given). q.step) k.1) ∙ e) in
    let is : g.state.phase ≡ phase.Passed = ap (λ (q : Given). q.state.phase) k.1 ∙ passed in
    record { is = is; closed = rw is refl }
pass-left (next s st (refused number place)) a e = absurd e
pass-left (take-output s st o r) a e = absurd e
pass-left (change s st c r) a e = absurd e

-- a failure
pub record FailedAt (f : Place) (st : State) : Type 0 where
  pub is : st.phase ≡ phase.Failed
  pub at : place_of st ≡ f

along-fail : (sh : Sheet) (st : State) (o : Option ℕ) (t i : ℕ) → (along sh st o).step ≡ step.Failure t i → ⊥
along-fail sh st none t i e = go (ltb st.begun (length sh.tests)) e
  where
    go : (b : Bool) → (onward b st).step ≡ step.Failure t i → ⊥
    go true e = never (cc)
    go false e = never (cc)
along-fail sh st (some x) t i e = never (cc)

next-fail : (sh : Sheet) (st : State) (p : Phase) (f : Place) → st.phase ≡ p → (next_by p sh st).step ≡ step.Failure f.test f.position → FailedAt f (next_by p sh st).state
next-fail sh st phase.Ready f ep e = absurd (along-fail sh st (input_at sh st) f.test f.position e)
next-fail sh st phase.Due f ep e = absurd (along-fail sh st (input_at sh st) f.test f.position e)
next-fail sh st phase.Passed f ep e = never (cc)
next-fail sh st phase.Failed f ep e =
    let t : st.begun - 1 ≡ f.test = cc in
    let i : st.position ≡ f.position = cc in
    record { is = ep; at = rw (t, i) refl }

take-fail : (st : State) (b : Bool) (f : Place) → (heard_as b st).failure ≡ some f → FailedAt f (heard_as b st).state
take-fail st true f e = never (cc)
take-fail st false f e = let z : place_of st ≡ f = cc in record { is = refl; at = z }

pub fail-left : (f : Place) (c : Call) → Answered c → GivesFailure f c → Verdict (FailedAt f) (state_left c)
fail-left f (next s st (accepted g)) a e =
    let k = next-left s st g (sym a) in
    let failed = next-fail k.0 st st.phase f refl (sym (ap (λ (q : Given). q.step) k.1) ∙ e) in
    let is : FailedAt f g.state = subst (λ (q : Given). FailedAt f q.state) (sym k.1) failed in
    record { is = is; closed = rw is.is refl }
fail-left f (next s st (refused number place)) a e = absurd e
fail-left f (take-output s st o (accepted h)) a e =
    let k = take_left s st o h (sym a) in
    let failed = take-fail st (eqb o k.1) f (sym (ap (λ (q : Heard). q.failure) k.3) ∙ e) in
    let is : FailedAt f h.state = subst (λ (q : Heard). FailedAt f q.state) (sym k.3) failed in
    record { is = is; closed = rw is.is refl }
fail-left f (take-output s st o (refused number place)) a e = absurd e
fail-left f (change s st c r) a e = absurd e
