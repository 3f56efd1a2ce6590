-- A history of the station from what is done with it: each call is given what the one before left.
use Rattle.std.specs.Prelude.{ℕ, zero, suc, ◌≡◌, refl, List, [], ◌∷◌}
use Rattle.std.proofs.Common.{inl, inr}
use Rattle.std.proofs.Math.Option.{Option, none, some}
use Rattle.sheet.specs.Reading.{accepted, refused}
use Rattle.model.specs.Suite.{Place}
use Rattle.station.specs.declared.State.{State}
use Rattle.station.specs.declared.Step.{Step}
use Rattle.station.specs.declared.Step.TheVariants as step
use Rattle.station.specs.Station.{fresh, beginning, nexting, taking, changing}
use Rattle.station.specs.Calls.{Call, next, take-output, change, Answered, sheet_left, state_left, Chained, History, Some}

-- what is done: a next step is wanted, an output comes, a changed sheet arrives
pub data Action : Type 0 where
  go : Action
  hear : ℕ → Action
  swap : List ℕ → Action

-- what is answered: a next step, or a failure at once; an output that is right; a changed sheet that is taken
pub data Answer : Type 0 where
  given : Step → Answer
  right : Answer
  goes_on : Answer
  refusal : ℕ → ℕ → Answer

abbrev call_of : List ℕ → State → Action → Call
call_of s st go = next s st (nexting s st)
call_of s st (hear o) = take-output s st o (taking s st o)
call_of s st (swap c) = change s st c (changing s st c)

unfoldable pub driven : List ℕ → State → List Action → List Call
driven s st [] = []
driven s st (a ∷ acts) = call_of s st a ∷ driven (sheet_left (call_of s st a)) (state_left (call_of s st a)) acts

abbrev pub calls : List ℕ → List Action → List Call
calls s acts = driven s fresh acts

abbrev heard : Option Place → Answer
heard none = right
heard (some f) = given (step.Failure f.test f.position)

abbrev pub answer_of : Call → Answer
answer_of (next s st (accepted g)) = given g.step
answer_of (next s st (refused number place)) = refusal number place
answer_of (take-output s st o (accepted h)) = heard h.failure
answer_of (take-output s st o (refused number place)) = refusal number place
answer_of (change s st c (accepted left)) = goes_on
answer_of (change s st c (refused number place)) = refusal number place

-- it is a history
answered : (s : List ℕ) (st : State) (a : Action) → Answered (call_of s st a)
answered s st go = refl
answered s st (hear o) = refl
answered s st (swap c) = refl

driven-chained : (acts : List Action) (s : List ℕ) (st : State) → Chained s st (driven s st acts)
unfolding driven Chained
driven-chained [] s st = tt
driven-chained (go ∷ acts) s st = (refl, refl, refl, driven-chained acts _ _)
driven-chained (hear o ∷ acts) s st = (refl, refl, refl, driven-chained acts _ _)
driven-chained (swap c ∷ acts) s st = (refl, refl, refl, driven-chained acts _ _)

pub history : (s : List ℕ) (acts : List Action) → beginning s ≡ accepted fresh → History s (calls s acts)
history s acts e = record { start = fresh; begins = e; chained = driven-chained acts s fresh }

-- the call at a place does it
unfoldable pub At : (Call → Type 0) → ℕ → List Call → Type 0
At P n [] = ⊥
At P zero (c ∷ cs) = P c
At P (suc n) (c ∷ cs) = At P n cs

pub some_at : (P : Call → Type 0) (n : ℕ) (cs : List Call) → At P n cs → Some P cs
unfolding At Some
some_at P n [] p = absurd p
some_at P zero (c ∷ cs) p = inl p
some_at P (suc n) (c ∷ cs) p = inr (some_at P n cs p)
