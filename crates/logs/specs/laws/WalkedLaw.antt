-- The first wrong output that a tabulated mutant gives along a log.
use Rattle.std.specs.Prelude.{◌%◌, ◌<◌, ◌≤◌, ◌≡◌, ◌∷◌}
use Rattle.lists.specs.Proving.{arith, ℕ, suc, refl, sym, ◌∙◌, Bool, true, false, cond, none, List, [], get_or, eqb, eq-eqb}
use Rattle.lists.specs.Lists.{All}
use Rattle.sheet.specs.Sheet.{Sheet}
use Rattle.sheet.specs.WellFormed.{WellFormed}
use Rattle.model.specs.Machine.{Move}
use Rattle.model.specs.Mutant.{step, initial}
use Rattle.model.specs.Suite.{first_failed_of, Passes}
use Rattle.model.specs.Log.{Observation, reset, seen, GivesFrom, GivesLog, failed_in, suite_log}
use Rattle.model.proofs.laws.StaysLaw.{start-below}
use Rattle.model.proofs.laws.LogLaw.{failed-log}
use Rattle.block.specs.Layout.{pair}
use Rattle.block.specs.Logged.{observations, LowSeen}
use Rattle.logs.specs.Walked.{moves_in}
use Rattle.logs.specs.laws.SizeLaw.{log-low}

-- where the machine gives a log, no output of it is wrong
pub gives_none : (move : ℕ → ℕ → Move) (start : ℕ) (l : List Observation) (s begun i : ℕ) → GivesFrom move start s l → failed_in move start s begun i l ≡ none
unfolding GivesFrom failed_in
gives_none move start [] s begun i g = refl
gives_none move start (reset ∷ l) s begun i g = gives_none move start l start (suc begun) 0 g
gives_none move start (seen x o ∷ l) s begun i g = rw (eq-eqb _ _ g.0) (gives_none move start l (move s x).target begun (suc i) g.1)

-- a mutant that gives the suite's log passes the suite
pub gives-passes : (sh : Sheet) (b : List ℕ) → GivesLog sh b (suite_log sh) → Passes sh b
gives-passes sh b g = sym (failed-log sh b) ∙ gives_none (step sh b) (initial sh b) (suite_log sh) (initial sh b) 0 0 g

-- in any log inputs and outputs are below 16
observed-low : (log : List ℕ) → All LowSeen (observations log)
unfolding observations
observed-low [] = tt
observed-low (v ∷ log) = go (eqb v 16) (eqb v 17) (observed-low log)
  where
    go : (pulse saw : Bool) → All LowSeen (observations log) →
        All LowSeen (cond pulse (reset ∷ observations log) (cond saw (seen (get_or log 0 0 % 16) (get_or log 1 0 % 16) ∷ observations log) (observations log)))
    go true saw a = (tt, a)
    go false true a = ((omega arith, omega arith), a)
    go false false a = a

-- the tables hold the moves of a machine that stays among n states
pub record Tabulates (n : ℕ) (move : ℕ → ℕ → Move) (outs nexts : List ℕ) : Type 0 where
  pub few-states : n ≤ 16
  pub output : (s x : ℕ) → s < n → x < 16 → get_or outs (pair s x) 0 ≡ (move s x).output
  pub target : (s x : ℕ) → s < n → x < 16 → get_or nexts (pair s x) 0 ≡ (move s x).target
  pub stays : (s x : ℕ) → s < n → x < 16 → (move s x).target < n

module _ {n : ℕ} {move : ℕ → ℕ → Move} {outs nexts : List ℕ} (t : Tabulates n move outs nexts) where
  same_move : (s x : ℕ) → s < n → x < 16 → moves_in outs nexts s x ≡ move s x
  unfolding moves_in
  same_move s x ls lx =
      let es : s % 16 ≡ s = omega (arith, t.few-states) in
      let ex : x % 16 ≡ x = omega arith in
      rw (es, ex) (λ i. record { output = t.output s x ls lx i; target = t.target s x ls lx i })

  same-failed : (start : ℕ) → start < n → (l : List Observation) → All LowSeen l → (s begun i : ℕ) → s < n →
      failed_in (moves_in outs nexts) start s begun i l ≡ failed_in move start s begun i l
  unfolding failed_in
  same-failed start ls [] a s begun i lt = refl
  same-failed start ls (reset ∷ l) a s begun i lt = same-failed start ls l a.1 start (suc begun) 0 ls
  same-failed start ls (seen x o ∷ l) a s begun i lt =
      rw (same_move s x lt a.0.0, same-failed start ls l a.1 (move s x).target begun (suc i) (t.stays s x lt a.0.0)) refl

module _ (sh : Sheet) (wf : WellFormed sh) {outs nexts : List ℕ} (b : List ℕ) (t : Tabulates sh.size.states (step sh b) outs nexts) (start : ℕ) (e : start ≡ initial sh b) where
  -- along any log it is the mutant's
  pub walked : (log : List ℕ) → failed_in (moves_in outs nexts) start start 0 0 (observations log) ≡ failed_in (step sh b) (initial sh b) (initial sh b) 0 0 (observations log)
  walked log = rw e (same-failed t (initial sh b) (start-below sh b wf) (observations log) (observed-low log) (initial sh b) 0 0 (start-below sh b wf))

  -- along the suite's log it is the first failed test
  pub walked-failed : failed_in (moves_in outs nexts) start start 0 0 (suite_log sh) ≡ first_failed_of sh b
  walked-failed = rw e (same-failed t (initial sh b) (start-below sh b wf) (suite_log sh) (log-low sh wf) (initial sh b) 0 0 (start-below sh b wf) ∙ failed-log sh b)
