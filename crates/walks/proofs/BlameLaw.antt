-- A walk that begins before a reset; however it halts, a reset stands there.
use Rattle.std.specs.Prelude.{◌<◌, ◌≡◌}
use Rattle.lists.specs.Proving.{ℕ, List, length, get_or}
use Rattle.model.specs.Log.{GivesFrom}
use Rattle.block.specs.Tabulated.{Wf, step_of, start_of}
use Rattle.block.specs.Logged.{GivesOf}
use Rattle.block.specs.laws.LoggedLaw.{drop-reset}
use Rattle.cubes.specs.laws.WalkLaw.{later-part, after-reset}
use Rattle.walks.specs.Walks.{Stands, Starts}
use Rattle.walks.specs.declared.walk.Halt.{Halt}
use Rattle.walks.specs.declared.walk.Halt.TheVariants as halt

-- there it does not matter in which state
pub stands-before : {m log p : List ℕ} {at : ℕ} → Wf m → at < length log → get_or log at 0 ≡ 16 → Stands m log p (record { at = at; state = 0; used = 0 })
unfolding GivesOf GivesFrom
stands-before {m} {log} {p} {at} wf l e = record {
  at = λ b w g y.
      let h = later-part (step_of m b) (start_of m b) log at (start_of m b) y in
      record {
        low = wf.some-states;
        goes = rw (drop-reset log at l e) (after-reset (step_of m b) (start_of m b) log at h.0 l e h.1);
      };
}

pub starts : (log : List ℕ) (at : ℕ) (h : Halt) → at < length log → get_or log at 0 ≡ 16 → Starts log at h
starts log at (halt.Fails used) l e = tt
starts log at (halt.Waits i place) l e = tt
starts log at (halt.Ends place) l e = (l, e)
starts log at halt.Lost l e = tt
