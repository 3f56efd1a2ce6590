-- The station's state as numbers: what one call leaves is what the next one takes.
use Rattle.std.specs.Prelude.{ℕ, ◌≡◌, refl}
use Rattle.station.specs.declared.Phase.{Phase}
use Rattle.station.specs.declared.Phase.TheVariants as phase
use Rattle.station.specs.declared.State.{State}
use Rattle.station.specs.Station.{state_at}
use Rattle.ranthelo.specs.Driving.{state_of, state_numbers}

kept : (begun position : ℕ) (p : Phase) → state_of (state_numbers (state_at begun position p)) ≡ state_at begun position p
kept begun position phase.Ready = refl
kept begun position phase.Due = refl
kept begun position phase.Passed = refl
kept begun position phase.Failed = refl

pub state-kept : (st : State) → state_of (state_numbers st) ≡ st
state-kept st = kept st.begun st.position st.phase
