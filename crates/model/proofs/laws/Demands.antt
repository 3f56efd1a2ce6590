-- The demands, of the bytes that an operation gets: what its answer means. The other laws lead here.
use Rattle.std.specs.Prelude.{ℕ, ◌≤◌, ◌*◌, ◌≡◌, refl, ◌⊎◌, List, length}
use Rattle.std.proofs.Common.{inl, inr, ⊎_elim}
use Rattle.sheet.specs.Sheet.{Sheet}
use Rattle.sheet.specs.Reading.{accepted, reading}
use Rattle.sheet.specs.WellFormed.{WellFormed}
use Rattle.sheet.specs.laws.AcceptedLaw.{well-formed}
use Rattle.model.specs.Mutant.{outputs, against, initial, Distinguishes, Conforming}
use Rattle.model.specs.Used.{used_on, Uses}
use Rattle.model.specs.Suite.{first_failed_of, compare_of, Judgement, complete, survivor, judge_of}
use Rattle.model.specs.Verdict.{RanMeans, UsedMeans, FailedMeans, ComparedMeans, Complete, JudgedMeans}
use Rattle.model.proofs.laws.StaysLaw.{closed, some-state, start-below}
use Rattle.model.proofs.laws.CompareLaw.{conforms-or-distinguished, short-exists}
use Rattle.model.proofs.laws.JudgeLaw.{compared, judged-complete, judged-survivor, complete-exactly}
use Rattle.model.proofs.laws.SuiteLaw.{failed-means}
use Rattle.model.proofs.laws.PublishedLaw.{ran-means}
use Rattle.model.proofs.laws.UsedLaw.{used-means}
use Rattle.model.proofs.laws.GuaranteeLaw.{guarantee}

module _ (s : List ℕ) (sh : Sheet) (read : reading s ≡ accepted sh) where
  wf : WellFormed sh
  wf = well-formed s sh read

  -- demand 2: the outputs of a run are those of the machine that 01 describes, one for each input
  pub ran-told : (b xs : List ℕ) → RanMeans sh b xs (outputs sh b xs)
  ran-told b xs = ran-means sh b xs

  -- 02, Point 3: the set has a bit for each slot that a run, or the tests up to the first wrong output, used; the number counts them
  pub used-told : (b : List ℕ) (ts : List (List ℕ)) → UsedMeans sh (Uses sh b ts) (used_on sh b ts)
  used-told b ts = used-means sh b ts

  -- demand 2: none fails, or the first test that does and its first wrong output
  pub failed-told : (b : List ℕ) → FailedMeans sh b (first_failed_of sh b)
  failed-told b = failed-means sh b wf

  -- demand 2: conforming on every defined sequence of any length, or the shortest, then smallest, distinguishing sequence
  pub compared-told : (b : List ℕ) → ComparedMeans sh b (compare_of sh b)
  compared-told b = compared sh wf b

  -- each mutant conforms, or a sequence of at most n × n inputs distinguishes it
  pub conforms-or-shows : (b : List ℕ) → Conforming sh b ⊎ ((xs : List ℕ) × (length xs ≤ sh.size.states * sh.size.states) × Distinguishes sh b xs)
  conforms-or-shows b =
      let m = against sh b in
      ⊎_elim (λ c. inl c)
      (λ d. inr (short-exists m 0 (initial sh b) (closed sh b wf) (some-state sh wf) (start-below sh b wf) d.0 d.1))
      (conforms-or-distinguished m 0 (initial sh b) (closed sh b wf) (some-state sh wf) (start-below sh b wf))

  -- demand 3: complete with the lasting guarantee, or the first survivor and its shortest distinguishing sequence
  pub judged-told : JudgedMeans sh (judge_of sh)
  judged-told = go (judge_of sh) refl
    where
      go : (j : Judgement) → judge_of sh ≡ j → JudgedMeans sh j
      go complete e = let all = judged-complete sh wf e in (all, guarantee sh wf all)
      go (survivor b xs) e = judged-survivor sh wf b xs e

  -- demand 3: complete exactly when every nonconforming mutant fails some test
  pub complete-told : (judge_of sh ≡ complete → Complete sh) × (Complete sh → judge_of sh ≡ complete)
  complete-told = complete-exactly sh wf
