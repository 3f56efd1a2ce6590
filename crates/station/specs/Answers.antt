-- What the code answers: 02's numbers and values for each case.
use Rattle.std.specs.Prelude.{Result as Answer}
use Rattle.logs.specs.Walked.{wrong_of}
use Rattle.sheet.specs.declared.Refusal.{Refusal}
use Rattle.sheet.specs.Reading.{Result}
use Rattle.sheet.specs.Tables.{answer_by}
use Rattle.station.specs.declared.State.{State}
use Rattle.station.specs.declared.Step.{Step}
use Rattle.station.specs.declared.Advanced.{Advanced}
use Rattle.station.specs.declared.Heard.{Heard as HeardAnswer}
use Rattle.station.specs.Station.{Given, Heard}

abbrev pub begun_answer : Result State → Answer State Refusal
begun_answer r = answer_by (λ st. st) r

abbrev pub advanced_at : Step → State → Advanced
advanced_at step state = record { step = step; state = state }

abbrev pub advanced_of : Given → Advanced
advanced_of g = advanced_at g.step g.state

abbrev pub next_answer : Result Given → Answer Advanced Refusal
next_answer r = answer_by advanced_of r

abbrev pub heard_of : Heard → HeardAnswer
heard_of h = record { wrong = wrong_of h.failure; state = h.state }

abbrev pub taken_answer : Result Heard → Answer HeardAnswer Refusal
taken_answer r = answer_by heard_of r

abbrev pub changed_answer : Result State → Answer (Unit {0}) Refusal
changed_answer r = answer_by (λ st. tt) r
