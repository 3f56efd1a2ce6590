-- What the code answers: 01's numbers and values for each case, and the bytes written.
use Rattle.std.specs.Prelude.{Result as Answer}
use Rattle.std.specs.Prelude.{ℕ, ◌≡◌, List, []}
use Rattle.std.proofs.Math.Option.{Option}
use Rattle.lists.specs.Lists.{overlay}
use Rattle.sheet.specs.declared.Refusal.{Refusal}
use Rattle.sheet.specs.Reading.{Result, accepted, refused}
use Rattle.sheet.specs.Tables.{answer_by}
use Rattle.model.specs.Used.{Usage}
use Rattle.model.specs.Suite.{Finding}
use Rattle.model.specs.Operations.{Response}
use Rattle.model.specs.Compare.{found}
use Rattle.logs.specs.Walked.{wrong_of}
use Rattle.machine.specs.Differences.{Difference, difference_of}
use Rattle.mutation.specs.declared.Used.{Used}
use Rattle.mutation.specs.declared.Tested.{Tested}

abbrev pub used_of : Usage → Used
used_of u = record { number = u.number; set = u.set }

abbrev pub ran_answer : Result Response → Answer Used Refusal
ran_answer r = answer_by (λ response. used_of response.used) r

-- what run writes: one output for each input; nothing on a refusal
abbrev pub ran_writes : Result Response → List ℕ
ran_writes (accepted r) = r.outputs
ran_writes (refused number place) = []

-- what run answers and leaves in the buffer
pub record Runs (o : Result Response) (r : Answer Used Refusal) (old new : List ℕ) : Type 0 where
  pub answer : r ≡ ran_answer o
  pub bytes : new ≡ overlay (ran_writes o) old

abbrev pub tested_of : Finding → Tested
tested_of f = record { failed = wrong_of f.first; used = used_of f.used }

abbrev pub failed_answer : Result Finding → Answer Tested Refusal
failed_answer r = answer_by tested_of r

abbrev pub compared_answer : Result (Option (List ℕ)) → Answer Difference Refusal
compared_answer r = answer_by difference_of r

-- what compare writes: the distinguishing sequence, if there is one
abbrev pub compared_writes : Result (Option (List ℕ)) → List ℕ
compared_writes (accepted o) = found o
compared_writes (refused number place) = []

-- what compare answers and leaves in the buffer
pub record Compares (o : Result (Option (List ℕ))) (r : Answer Difference Refusal) (old new : List ℕ) : Type 0 where
  pub answer : r ≡ compared_answer o
  pub bytes : new ≡ overlay (compared_writes o) old
