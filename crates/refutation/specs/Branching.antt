-- What the steps of the search for refutations promise each other.
use Rattle.std.specs.Prelude.{◌≡◌, List, ℕ, ◌<◌, length, get_or, None}
use Rattle.model.specs.Machine.{Move}
use Rattle.block.specs.Layout.{site_at, choices_of}
use Rattle.block.specs.Tabulated.{StepIs}
use Rattle.block.specs.declared.layout.Step.{Step}
use Rattle.cubes.specs.Sets.{Has}
use Rattle.cubes.specs.Cube.{NoneIn, Joining}
use Rattle.cubes.specs.declared.goal.Goal.{Goal}
use Rattle.refutation.specs.declared.branch.Split.{Split}
use Rattle.refutation.specs.declared.branch.Turn.{Turn}

-- the suspect is that of the pair, the choices are all it has, and one more may be settled
pub record SplitOk (m : List ℕ) (left : ℕ) (r : Split) : Type 0 where
  pub low : r.i < 32
  pub pair : r.k < 257
  pub is : site_at m r.k ≡ r.i
  pub count : r.n ≡ choices_of m r.i
  pub some : 0 < left

-- the transition is that of choice c at the pair k, and it is done if it is passed over
pub record TurnOk (m done : List ℕ) (k c : ℕ) (r : Turn) : Type 0 where
  pub is : StepIs m k c r.step
  pub has : r.hint ≡ None → Has (get_or done r.step.output 0) r.step.target

-- a cube in which no mutant is sought is joined to the others: nothing that is done is lost, and the transition is done
pub record JoinedOk (m cube all done more wider : List ℕ) (k : ℕ) (s : Step) : Type 0 where
  pub all-long : length more ≡ 32
  pub done-long : length wider ≡ 16
  pub joins : (goal : Goal) (log : List ℕ) → NoneIn goal m log cube → Joining goal m log all done k → Joining goal m log more wider k
  pub keeps : (v : Move) → Has (get_or done v.output 0) v.target → Has (get_or wider v.output 0) v.target
  pub here : Has (get_or wider s.output 0) s.target
